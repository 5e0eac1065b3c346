-- How long the encodings of own items are, and that their node data has less than 36,864 bytes.
use Rattle.hn_base.proofs.Names.{◌≡◌, ◌≤◌, ◌<◌, ◌+◌, ◌*◌, ◌∙◌, lit≤, ℕ, List, [], ◌∷◌, ◌++◌, length, map, get_or, Decides, refl, ap, subst, arith, codes, length-append, slice_cmp, w128, to_be_bytes}
use Rattle.hn_base.proofs.Names.{concat, flat_map, sum_by, nat_cmp, eq_by_cmp, is_eq, nat_list_cmp_total, tied_itself, length-map, length-replicate, length-take, map-append, All-map, sum_by-append}
use Rattle.hn_base.proofs.Names.{sum_by-cons, IsDistinct-from_sorted, plain_caps, PlainPrefix}
use Rattle.hn_own.proofs.Names.{exact_nat, exact_lists, equal_from_is_eq, spelling, prefix_field, bytes_for, PlainItem, External, tlv_of, value_of, IsAscendingSet, PeerLink, AssignedPrefix}
use Rattle.hn_own.proofs.Names.{OwnAddress, OwnItems, OwnPrefix, AreFew, peer_item, delegated_item, external_items, assigned_item, address_item, encodings, pieces_of}
use Rattle.std.proofs.lemmas.List.Concat.{concat_is, length-flat_map}
use Rattle.std.proofs.lemmas.List.Sums.{sum_by-le}
use Rattle.hn_tlv.specs.Grammar.{PlainTlv}
use Rattle.hn_typed.specs.Item.{Version}
use Rattle.hn_own.proofs.OwnSums.{sum_by-le_from_Contains}

spelling_size : (tlv : PlainTlv) → length (spelling tlv) ≤ length tlv.value + 7
spelling_size tlv = simp (length-append, length-replicate) (omega arith)

prefix_size : (p : PlainPrefix) → length (prefix_field p) ≤ 17
prefix_size p = omega (arith, length-take (bytes_for p.len) (to_be_bytes w128 p.bits))

-- ---- each kind of item

peer_size : (link : PeerLink) → length (spelling (tlv_of (peer_item link))) ≤ 16
peer_size link = lit≤ tt

pub delegated_value_size : (now : ℕ) (own : OwnPrefix) → length (value_of (delegated_item now own)) ≤ 25
delegated_value_size now own = let field = prefix_size own.prefix in simp (length-append) (omega arith)

delegated_size : (now : ℕ) (own : OwnPrefix) → length (spelling (tlv_of (delegated_item now own))) ≤ 32
delegated_size now own = let value = delegated_value_size now own in omega (arith, spelling_size (tlv_of (delegated_item now own)))

pub assigned_value_size : (a : AssignedPrefix) → length (value_of (assigned_item a)) ≤ 22
assigned_value_size a = let field = prefix_size a.prefix in simp (length-append) (omega arith)

assigned_size : (a : AssignedPrefix) → length (spelling (tlv_of (assigned_item a))) ≤ 29
assigned_size a = let value = assigned_value_size a in omega (arith, spelling_size (tlv_of (assigned_item a)))

address_size : (a : OwnAddress) → length (spelling (tlv_of (address_item a))) ≤ 27
address_size a = lit≤ tt

all_delegated_size : (now : ℕ) (list : List OwnPrefix) → length (flat_map (λ own. spelling (tlv_of (delegated_item now own))) list) ≤ 32 * length list
all_delegated_size now [] = omega arith
all_delegated_size now (own ∷ list) =
    let rest = all_delegated_size now list in
    omega (arith, delegated_size now own, length-append (spelling (tlv_of (delegated_item now own))) (flat_map (λ own. spelling (tlv_of (delegated_item now own))) list))

external_value_size : (subs : List ℕ) → length (value_of (External subs)) ≡ length subs
external_value_size [] = refl
external_value_size (byte ∷ bytes) = refl

-- the Delegated-Prefixes of at most 8 own prefixes fit in an External-Connection
pub external_short : (now : ℕ) (list : List OwnPrefix) (subs : List ℕ) → length list ≤ 8
    → subs ≡ flat_map (λ own. spelling (tlv_of (delegated_item now own))) list → length (value_of (External subs)) ≤ 256
external_short now list subs few is =
    let size = ap length is in
    omega (arith, external_value_size subs, all_delegated_size now list)

external_size : (now : ℕ) (list : List OwnPrefix) → length list ≤ 8 → sum_by length (encodings (external_items now list)) ≤ 263
external_size now [] few = omega arith
external_size now (own ∷ list) few =
    let subs = flat_map (λ own. spelling (tlv_of (delegated_item now own))) (own ∷ list) in
    omega (arith, external_short now (own ∷ list) subs few refl, spelling_size (tlv_of (External subs)), sum_by-cons (length {A = ℕ}) (spelling (tlv_of (External subs))) [])

-- ---- all of them

joined_size : (pieces : List (List ℕ)) → length (concat pieces) ≡ sum_by length pieces
joined_size pieces = ap length (concat_is pieces) ∙ length-flat_map (λ (piece : List ℕ). piece) pieces

-- the bytes of items of one kind, each of at most so many bytes
kind_size : {X : Type 0} (item_of : X → PlainItem) (most : ℕ) (xs : List X) → ((x : X) → length (spelling (tlv_of (item_of x))) ≤ most)
    → sum_by length (encodings (map item_of xs)) ≤ length xs * most
kind_size {X} item_of most xs each =
    let spelled : PlainItem → List ℕ = λ item. spelling (tlv_of item) in
    let sizes : sum_by length (encodings (map item_of xs)) ≤ length (encodings (map item_of xs)) * most =
    sum_by-le (length {A = ℕ}) most (encodings (map item_of xs))
    (All-map (λ (piece : List ℕ). length piece ≤ most) spelled (map item_of xs) (All-map (λ (item : PlainItem). length (spelled item) ≤ most) item_of xs (λ k d within. each (get_or xs k d))))
    in
    let count : length (encodings (map item_of xs)) ≡ length xs = length-map (map item_of xs) spelled ∙ length-map xs item_of in
    subst (λ (n : ℕ). sum_by length (encodings (map item_of xs)) ≤ n * most) count sizes

-- the bytes of two groups of items
group_size : (xs ys : List PlainItem) → sum_by length (encodings (xs ++ ys)) ≡ sum_by length (encodings xs) + sum_by length (encodings ys)
group_size xs ys =
    let spelled : PlainItem → List ℕ = λ item. spelling (tlv_of item) in
    ap (sum_by length) (map-append spelled xs ys) ∙ sum_by-append (length {A = ℕ}) (encodings xs) (encodings ys)

pieces_size : (now : ℕ) (own : OwnItems) → AreFew own → sum_by length (pieces_of now own) ≤ 34163
pieces_size now own are =
    let links = map peer_item own.links in
    let external = external_items now own.delegated in
    let assigned = map assigned_item own.assigned in
    let addresses = map address_item own.addresses in
    let version = spelling (tlv_of (Version (plain_caps own.caps) (codes "hncp"))) in
    let whole : sum_by length (pieces_of now own) ≡ 12 + sum_by length (encodings (((links ++ external) ++ assigned) ++ addresses)) =
    sum_by-cons (length {A = ℕ}) version (encodings (((links ++ external) ++ assigned) ++ addresses)) in
    let few_links = are.links in
    let few_assigned = are.assigned in
    let few_addresses = are.addresses in
    omega (
      arith,
      external_size now own.delegated are.delegated,
      group_size ((links ++ external) ++ assigned) addresses,
      group_size (links ++ external) assigned,
      group_size links external,
      kind_size peer_item 16 own.links peer_size,
      kind_size assigned_item 29 own.assigned assigned_size,
      kind_size address_item 27 own.addresses address_size,
    )

same_bytes : (a b : List ℕ) → Decides (eq_by_cmp (slice_cmp nat_cmp) a b) (a ≡ b)
same_bytes a b = (
  λ is. exact_lists nat_cmp exact_nat a b (equal_from_is_eq (slice_cmp nat_cmp a b) is),
  λ is. subst (λ (c : List ℕ). is_eq (slice_cmp nat_cmp a c) ≡ is_eq (slice_cmp nat_cmp a a)) is refl ∙ ap is_eq (tied_itself nat_list_cmp_total a),
)

-- the node data of own items
pub own_data_short : (now : ℕ) (own : OwnItems) (bytes : List ℕ) → AreFew own → IsAscendingSet (pieces_of now own) bytes → length bytes < 36864
own_data_short now own bytes are set =
    let each = sum_by-le_from_Contains (length {A = ℕ}) same_bytes set.ascending (pieces_of now own)
    (IsDistinct-from_sorted (slice_cmp nat_cmp) set.ascending set.in_order) (λ piece. (set.same piece).0) in
    let size = ap length set.joined ∙ joined_size set.ascending in
    omega (arith, pieces_size now own are)
