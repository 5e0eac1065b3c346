use Rattle.hn_base.proofs.Names.{◌≡◌, ◌∷◌, ◌++◌, ℕ, length, take, drop, subst, refl, ap, sym, ◌∙◌, arith, rules, common_steps, PlainPrefix, IsPrefix}
use Rattle.hn_typed.proofs.Names.{prefix_field, bytes_for, Bytes, Bytes-from_reads, Bytes-take, Prefixed}
use Rattle.hn_typed.specs.Shape.{any_prefix}
use Rattle.hn_typed.proofs.FirstCauses.{in_field, past_prefix}
use Rattle.hn_typed.proofs.Prefixes.{prefix_read}
use Rattle.hn_typed.proofs.prefix.split_prefix.Goals as goal

read : (c : goal.In-Ok) → c.args.field.now ≡ prefix_field c.in-Ok.prefix ++ c.split_at.result.1.now
read c =
    let field = c.args.field.now in
    let len : ℕ = c.in-Some.field-0-0.now in
    let tail = c.in-Some.after.now in
    let front = c.split_at.result.0.now in
    let after = c.split_at.result.1.now in
    let found : field ≡ len ∷ tail = c.in-Some.ensures.cases.0 in
    let count : c.bytes_for-count.result ≡ bytes_for len = c.bytes_for-count.ensures in
    let front-is : front ≡ take (bytes_for len) tail = c.split_at.ensures.front ∙ ap (λ n. take n tail) count in
    let after-is : after ≡ drop (bytes_for len) tail = c.split_at.ensures.back ∙ ap (λ n. drop n tail) count in
    let front_len : length front ≡ bytes_for len = c.split_at.ensures.front_len ∙ count in
    let fits : Bytes front = subst Bytes (sym front-is) (Bytes-take (bytes_for len) tail (subst Bytes found (Bytes-from_reads field (λ i. omega (arith, c.type_inv.field i)))).1) in
    let read : field ≡ prefix_field (record { bits = c.address_of.result; len = len }) ++ after =
    prefix_read field tail front after len c.address_of.result found front-is after-is front_len (omega arith) fits c.address_of.ensures in
    let same : c.in-Ok.prefix ≡ record { bits = c.address_of.result; len = len } = c.in-Ok.ensures.value in
    read ∙ ap (λ (p : PlainPrefix). prefix_field p ++ after) (sym same)

pub returns-in_default-clause-fault : goal.returns-in_default-clause-fault
returns-in_default-clause-fault c = in_field (Prefixed any_prefix) c.args.field.now 1 (first_of (search rules, grind arith, grind (arith, common_steps)))

pub returns-then-len-gt-LONGEST_PREFIX-clause-fault : goal.returns-then-len-gt-LONGEST_PREFIX-clause-fault
returns-then-len-gt-LONGEST_PREFIX-clause-fault c = in_field (Prefixed any_prefix) c.args.field.now 3 (first_of (search rules, grind arith, grind (arith, common_steps)))

pub returns-then-after-count-clause-fault : goal.returns-then-after-count-clause-fault
returns-then-after-count-clause-fault c = in_field (Prefixed any_prefix) c.args.field.now 1 (first_of (search rules, grind arith, grind (arith, common_steps)))

pub returns-in-Err-clause-fault : goal.returns-in-Err-clause-fault
returns-in-Err-clause-fault c = in_field (Prefixed any_prefix) c.args.field.now 3 (first_of (search rules, grind arith, grind (arith, common_steps)))

pub returns-in-Ok-clause-parts : goal.returns-in-Ok-clause-parts
returns-in-Ok-clause-parts c = read c

pub returns-in-Ok-clause-past : goal.returns-in-Ok-clause-past
returns-in-Ok-clause-past c = past_prefix c.in-Ok.prefix any_prefix c.args.field.now c.split_at.result.1.now (subst IsPrefix (sym c.in-Ok.ensures.value) (c.in-Ok.ensures.accepted.0 refl)) (read c)
