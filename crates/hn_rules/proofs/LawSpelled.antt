-- Own items that can be written have TLVs, and the ascending set of the encodings of items is read as those items again.
use Rattle.hn_base.proofs.Names.{◌≡◌, ◌∙◌, ◌<◌, ◌^◌, ◌+◌, ◌*◌, ℕ, List, [], ◌∷◌, ◌++◌, map, take, get_or, refl, sym, ap, subst, inl, arith, All, w128, to_be_bytes, concat, append-nil, All-append}
use Rattle.hn_base.proofs.Names.{All-cons, All-nil, All-take, All-head, All-tail, All-map, All-contains, All-from_recursion, PlainCaps, plain_caps, IsByte}
use Rattle.hn_rules.proofs.Names.{Contains, codes, Contains-from_map, number_bytes, PlainTlv, IsTlv, IsTlvList, spelling, SpellingIsPrefixFree, ListIsOfBytes, word, bytes_for, prefix_field, PlainItem}
use Rattle.hn_rules.proofs.Names.{Version, External, IsItem, tlv_of, IsWritable, ItemIsUnique, WrittenIsRead, IsReading, AssignedPrefix, PeerLink, OwnItems, OwnPrefix, OwnAddress, peer_item}
use Rattle.hn_rules.proofs.Names.{external_items, assigned_item, address_item, items_of}

-- ---- own items

-- an item that has a TLV if it can be written
abbrev pub IsFit : PlainItem → Type 0
IsFit item = IsWritable item → IsTlv (tlv_of item)

version_fit : (caps : PlainCaps) → IsFit (Version caps (codes "hncp"))
version_fit caps is = record {
  kind_fits = omega arith;
  length_fits = let short = is.short in omega arith;
  bytes =
      let fits = is.in_range in
      let upper : 16 * caps.m + caps.p < 2 ^ 8 = let first = fits.1.1.0 in omega arith in
      let lower : 16 * caps.h + caps.l < 2 ^ 8 = let second = fits.1.1.1 in omega arith in
      let value : List ℕ = 0 ∷ 0 ∷ (16 * caps.m + caps.p) ∷ (16 * caps.h + caps.l) ∷ codes "hncp" in
      All-from_recursion IsByte value (omega arith, (omega arith, (upper, (lower, (omega arith, (omega arith, (omega arith, (omega arith, tt))))))));
}

peer_fit : (link : PeerLink) → IsFit (peer_item link)
peer_fit link is =
    let peer = word link.peer.0 in
    let there = word link.peer_endpoint.0 in
    let here = word link.endpoint.0 in
    let none = All-nil IsByte in
    record {
      kind_fits = omega arith;
      length_fits = let short = is.short in omega arith;
      bytes =
          All-append IsByte (((peer ++ there) ++ here) ++ []) []
          (All-append IsByte ((peer ++ there) ++ here) []
          (All-append IsByte (peer ++ there) here (All-append IsByte peer there (number_bytes 4 link.peer.0) (number_bytes 4 link.peer_endpoint.0)) (number_bytes 4 link.endpoint.0)) none) none;
    }

assigned_fit : (a : AssignedPrefix) → IsFit (assigned_item a)
assigned_fit a is =
    let endpoint = word a.endpoint.0 in
    let bits = take (bytes_for a.prefix.len) (to_be_bytes w128 a.prefix.bits) in
    let field : All IsByte (prefix_field a.prefix) =
    All-cons IsByte a.prefix.len bits (let len = is.in_range.1.1.len_in_range in omega arith)
    (All-take IsByte (bytes_for a.prefix.len) (to_be_bytes w128 a.prefix.bits) (number_bytes 16 a.prefix.bits))
    in
    let priority : 16 * 0 + a.priority < 2 ^ 8 = let fits = is.in_range.1.0 in omega arith in
    let after : List ℕ = (16 * 0 + a.priority) ∷ prefix_field a.prefix in
    let none = All-nil IsByte in
    record {
      kind_fits = omega arith;
      length_fits = let short = is.short in omega arith;
      bytes =
          All-append IsByte ((endpoint ++ after) ++ []) []
          (All-append IsByte (endpoint ++ after) [] (All-append IsByte endpoint after (number_bytes 4 a.endpoint.0)
          (All-cons IsByte (16 * 0 + a.priority) (prefix_field a.prefix) priority field)) none) none;
    }

address_fit : (a : OwnAddress) → IsFit (address_item a)
address_fit a is =
    let endpoint = word a.0.0 in
    let address = to_be_bytes w128 a.1 in
    let none = All-nil IsByte in
    record {
      kind_fits = omega arith;
      length_fits = let short = is.short in omega arith;
      bytes = All-append IsByte ((endpoint ++ address) ++ []) []
          (All-append IsByte (endpoint ++ address) [] (All-append IsByte endpoint address (number_bytes 4 a.0.0) (number_bytes 16 a.1)) none) none;
    }

-- the law that a list of TLVs is one of bytes
module _ (of_bytes : ListIsOfBytes) where
  external_fit : (subs : List ℕ) → IsFit (External subs)
  external_fit [] is = record { kind_fits = omega arith; length_fits = omega arith; bytes = All-nil IsByte }
  external_fit (byte ∷ subs) is = record {
    kind_fits = omega arith;
    length_fits = let short = is.short in omega arith;
    bytes = of_bytes is.tlvs_after.0 (byte ∷ subs) is.tlvs_after.1;
  }

  externals_fit : (now : ℕ) (list : List OwnPrefix) → All IsFit (external_items now list)
  externals_fit now [] = All-nil IsFit
  externals_fit now (p ∷ ps) = All-cons IsFit (External _) [] (external_fit _) (All-nil IsFit)

  pub own_fit : (now : ℕ) (own : OwnItems) → All IsFit (items_of now own)
  own_fit now own =
      let links = map peer_item own.links in
      let external = external_items now own.delegated in
      let assigned = map assigned_item own.assigned in
      let addresses = map address_item own.addresses in
      All-cons IsFit (Version (plain_caps own.caps) (codes "hncp")) (((links ++ external) ++ assigned) ++ addresses) (version_fit (plain_caps own.caps))
      (All-append IsFit ((links ++ external) ++ assigned) addresses
      (All-append IsFit (links ++ external) assigned
      (All-append IsFit links external (All-map IsFit peer_item own.links (λ k d within. peer_fit (get_or own.links k d))) (externals_fit now own.delegated))
      (All-map IsFit assigned_item own.assigned (λ k d within. assigned_fit (get_or own.assigned k d))))
      (All-map IsFit address_item own.addresses (λ k d within. address_fit (get_or own.addresses k d))))

-- ---- pieces that are the encodings of some of the items

abbrev pub encoding : PlainItem → List ℕ
encoding item = spelling (tlv_of item)

-- what is read in them
pub record AreRead (items : List PlainItem) (pieces : List (List ℕ)) : Type 0 where
  pub read : List PlainItem
  pub list : IsTlvList (map tlv_of read) (concat pieces)
  pub reading : IsReading (map tlv_of read) read
  pub of_items : All (Contains items) read
  pub encoded : map encoding read ≡ pieces

-- the laws of TLVs and of items
module _ (same_begin : SpellingIsPrefixFree) (same_item : ItemIsUnique) (written_is_item : WrittenIsRead)
    (items : List PlainItem) (writable : All IsWritable items) (fit : All IsFit items) where
  pub are_read : (pieces : List (List ℕ)) → All (Contains (map encoding items)) pieces → AreRead items pieces
  are_read [] all = record { read = []; list = refl; reading = refl; of_items = All-nil (Contains items); encoded = refl }
  are_read (piece ∷ pieces) all =
      let from = Contains-from_map encoding items piece (All-head (Contains (map encoding items)) piece pieces all) in
      let can : IsWritable from.0 = All-contains IsWritable items from.0 writable from.1 in
      let tlv : IsTlv (tlv_of from.0) = All-contains IsFit items from.0 fit from.1 can in
      let rest = are_read pieces (All-tail (Contains (map encoding items)) piece pieces all) in
      record {
        read = from.0 ∷ rest.read;
        list = (concat pieces, tlv, ap (λ (front : List ℕ). front ++ concat pieces) (sym from.2), rest.list);
        reading = inl (from.0, rest.read, written_is_item from.0 can, refl, rest.reading);
        of_items = All-cons (Contains items) from.0 rest.read from.1 rest.of_items;
        encoded = let head = from.2 in let tail = rest.encoded in cc;
      }

  -- one encoding is of one item
  pub same_encoded : (item other : PlainItem) → Contains items item → Contains items other → encoding item ≡ encoding other → item ≡ other
  same_encoded item other there also same =
      let can = All-contains IsWritable items item writable there in
      let can_other = All-contains IsWritable items other writable also in
      let tlv = All-contains IsFit items item fit there can in
      let tlv_other = All-contains IsFit items other fit also can_other in
      let tlvs : tlv_of item ≡ tlv_of other = (same_begin (tlv_of item) (tlv_of other) [] [] tlv tlv_other (append-nil (encoding item) ∙ same ∙ sym (append-nil (encoding other)))).0 in
      same_item (tlv_of item) item other (written_is_item item can) (subst (λ (t : PlainTlv). IsItem t other) (sym tlvs) (written_is_item other can_other))
