use Rattle.hn_base.proofs.Names.{◌≡◌, ◌∷◌, ◌++◌, [], List, ℕ, take, ap, append_assoc, ◌∙◌, w128, to_be_bytes}
use Rattle.hn_typed.proofs.Names.{bytes_for}
use Rattle.hn_typed.proofs.fixed.FixedPart.prefix.Goals as goal

pub returns-clause-exact : goal.returns-clause-exact
returns-clause-exact c =
    let prefix = c.args.prefix.now in
    let len : c.len-len.result ≡ prefix.len = c.len-len.ensures.value in
    let count : c.bytes_for.result ≡ bytes_for prefix.len = c.bytes_for.ensures ∙ ap bytes_for len in
    let bytes : c.to_be_bytes-bytes.result ≡ to_be_bytes w128 prefix.bits = c.to_be_bytes-bytes.ensures ∙ ap (to_be_bytes w128) c.bits.ensures.value in
    let front : c.then.result ≡ c.args.self ++ prefix.len ∷ [] = c.then.ensures ∙ ap (λ n. c.args.self ++ n ∷ []) len in
    let back : take c.bytes_for.result c.to_be_bytes-bytes.result ≡ take (bytes_for prefix.len) (to_be_bytes w128 prefix.bits) =
    ap (λ n. take n c.to_be_bytes-bytes.result) count ∙ ap (take (bytes_for prefix.len)) bytes in
    c.then-2.ensures
    ∙ ap (λ (z : List ℕ). z ++ take c.bytes_for.result c.to_be_bytes-bytes.result) front
    ∙ ap (λ (z : List ℕ). (c.args.self ++ prefix.len ∷ []) ++ z) back
    ∙ append_assoc c.args.self (prefix.len ∷ []) (take (bytes_for prefix.len) (to_be_bytes w128 prefix.bits))
