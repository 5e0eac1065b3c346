-- The words ask for one call of `node`, whose numbers are in range.
use Rattle.hn_base.proofs.Names.{◌≡◌, ◌∙◌, ◌≤◌, ◌^◌, ◌-◌, ℕ, List, [], ◌∷◌, take, refl, sym, subst, All, AllZip, All-nil, All-cons}
use Rattle.hn_run.proofs.Names.{IsNumberText, IsFormOf, Node, PlainCall}
use Rattle.hn_forms.specs.Form.{IsNodeCall}
use Rattle.hn_forms.specs.Node.{IsCall, plain_call}
use Rattle.hn_forms.specs.declared.words.NodeCall.{NodeCall}

-- ---- the numbers of a call

all_below : (words : List (List ℕ)) (ports : List ℕ) → AllZip (IsNumberText 1024 65534) words ports → All (λ peer. peer ≤ 65534) ports
all_below [] [] h = All-nil (λ peer. peer ≤ 65534)
all_below [] (port ∷ ports) h = absurd h
all_below (word ∷ words) [] h = absurd h
all_below (word ∷ words) (port ∷ ports) h = All-cons (λ peer. peer ≤ 65534) port ports h.0.high (all_below words ports h.1)

pub call_in_range : (call : NodeCall) (id port turns seed : List ℕ) (peers : List (List ℕ)) → IsNodeCall call id port turns seed peers → IsCall call
call_in_range call id port turns seed peers is = record {
  port = is.port_is.high;
  turns = is.turns_are.high;
  count = is.peers_are.most;
  peers = all_below peers (take call.count call.peers) is.peers_are.are;
}

-- ---- words ask for one call

one_number : (lowest highest : ℕ) (word : List ℕ) (m n : ℕ) → IsNumberText lowest highest word m → IsNumberText lowest highest word n → m ≡ n
one_number lowest highest word m n h k = sym h.numeral.value ∙ k.numeral.value

one_list : (words : List (List ℕ)) (xs ys : List ℕ) → AllZip (IsNumberText 1024 65534) words xs → AllZip (IsNumberText 1024 65534) words ys → xs ≡ ys
one_list [] [] [] h k = refl
one_list [] [] (y ∷ ys) h k = absurd k
one_list [] (x ∷ xs) ys h k = absurd h
one_list (w ∷ words) [] ys h k = absurd h
one_list (w ∷ words) (x ∷ xs) [] h k = absurd k
one_list (w ∷ words) (x ∷ xs) (y ∷ ys) h k =
    let first = one_number 1024 65534 w x y h.0 k.0 in
    let rest = one_list words xs ys h.1 k.1 in
    λ i. first i ∷ rest i

one_call : (a b : NodeCall) (id port turns seed : List ℕ) (peers : List (List ℕ)) → IsNodeCall a id port turns seed peers → IsNodeCall b id port turns seed peers → plain_call a ≡ plain_call b
one_call a b id port turns seed peers h k =
    let ids : a.id.0 ≡ b.id.0 = sym h.id_is.numeral.value ∙ k.id_is.numeral.value in
    let ports = one_number 1024 65534 port a.port b.port h.port_is k.port_is in
    let turn = one_number 1 100000 turns a.turns b.turns h.turns_are k.turns_are in
    let seeds = one_number 0 (2 ^ 64 - 1) seed a.seed b.seed h.seed_is k.seed_is in
    let lists = one_list peers (take a.count a.peers) (take b.count b.peers) h.peers_are.are k.peers_are.are in
    λ i. record { id = record { 0 = ids i }; port = ports i; turns = turn i; seed = seeds i; peers = lists i }

-- what holds of the call that was read holds of each that the words ask for
pub as_called : (P : PlainCall → Type 0) (a b : NodeCall) (words : List (List ℕ)) → IsFormOf (Node a) words → IsFormOf (Node b) words → P (plain_call a) → P (plain_call b)
as_called P a b words h k holds =
    let id : k.1 ≡ h.1 = cc in
    let port : k.2 ≡ h.2 = cc in
    let turns : k.3 ≡ h.3 = cc in
    let seed : k.4 ≡ h.4 = cc in
    let peers : k.5 ≡ h.5 = cc in
    let first = subst (λ (w : List ℕ). IsNodeCall b w k.2 k.3 k.4 k.5) id k.7 in
    let second = subst (λ (w : List ℕ). IsNodeCall b h.1 w k.3 k.4 k.5) port first in
    let third = subst (λ (w : List ℕ). IsNodeCall b h.1 h.2 w k.4 k.5) turns second in
    let fourth = subst (λ (w : List ℕ). IsNodeCall b h.1 h.2 h.3 w k.5) seed third in
    let all = subst (λ (w : List (List ℕ)). IsNodeCall b h.1 h.2 h.3 h.4 w) peers fourth in
    subst P (one_call a b h.1 h.2 h.3 h.4 h.5 h.7 all) holds
