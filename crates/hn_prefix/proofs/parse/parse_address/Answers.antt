use Rattle.hn_base.proofs.Names.{◌≡◌, ◌<◌, ◌^◌, ℕ, List, Ok, ap, sym, subst, ◌∙◌, none-some, same_Some}
use Rattle.hn_prefix.proofs.Names.{address_of_groups, address_text_of, IsAddressText}
use Rattle.hn_prefix.proofs.WriteLemmas.{address_text_is_read}
use Rattle.hn_prefix.proofs.parse.parse_address.Goals as goal

pub returns-clause-every : goal.returns-clause-every
returns-clause-every c =
    λ ip h.
    let same = same_Some _ _ (sym c.in_ok-groups.ensures.ok_part ∙ c.all_groups.ensures.every h.0 h.1) in
    ap Ok (c.address.ensures ∙ ap address_of_groups (c.as_slice.ensures ∙ same) ∙ h.2)

-- a written form is a read form
read_back : {text : List ℕ} (ip : ℕ) → ip < 2 ^ 128 → text ≡ address_text_of ip → IsAddressText text ip
read_back ip fits is = subst (λ t. IsAddressText t ip) (sym is) (address_text_is_read ip fits)

pub returns-clause-written : goal.returns-clause-written
returns-clause-written c = λ ip fits is. returns-clause-every c ip (read_back ip fits is)

pub returns-in_err-groups-clause-written : goal.returns-in_err-groups-clause-written
returns-in_err-groups-clause-written c = λ ip fits is.
    let h = read_back ip fits is in
    absurd (none-some h.0 (sym c.in_err-groups.ensures.ok_part ∙ c.all_groups.ensures.every h.0 h.1))
