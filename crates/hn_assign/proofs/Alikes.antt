-- Where nodes advertise the same, what is advertised is the same.
use Rattle.std.proofs.Common.{◌≡◌, ◌∙◌, ◌<◌, ℕ, List, Contains, length, get_or, inl, inr, sym, ap, subst}
use Rattle.std.specs.Prelude.{◌↔◌}
use Rattle.std.proofs.lemmas.List.Elements.{Contains-get_or}
use Rattle.hn_base.specs.declared.ids.NodeId.{NodeId}
use Rattle.hn_data.specs.View.{PlainView}
use Rattle.hn_data.specs.declared.view.Entry.{Entry}
use Rattle.hn_assign.specs.Alike.{AdvertisesAs, AdvertiseAlike}
use Rattle.hn_assign.specs.Gathered.{IsOfOther, IsAdvertised, AreAdvertised}
use Rattle.hn_assign.specs.declared.advertised.Advertised.{Advertised}
use Rattle.hn_pair.specs.declared.assigned.Assigned.{Assigned}

pub back : (x y : Entry) → AdvertisesAs x y → AdvertisesAs y x
back x y same = record {
  id = sym same.id;
  version = (same.version.1, same.version.0);
  assigned = λ a. let one = same.assigned a in (one.1, one.0);
}

pub of_other : (own : ℕ) (x y : Entry) (a : Advertised) → AdvertisesAs x y → IsOfOther own x a → IsOfOther own y a
of_other own x y a same is = record {
  another = λ own_is. is.another (ap (λ (id : NodeId). id.0) (sym same.id) ∙ own_is);
  version = same.version.0 is.version;
  says = record {
    node = is.says.node ∙ sym same.id;
    assigned = (same.assigned (record { endpoint = a.key.endpoint; priority = a.key.priority; prefix = a.prefix })).0 is.says.assigned;
  };
}

-- each node of one list has one in the other
abbrev Goes : List Entry → List Entry → Type 0
Goes xs ys = (x : Entry) → Contains xs x → (y : Entry) × Contains ys y × AdvertisesAs x y

advertised_goes : (own moment now : ℕ) (xs ys : List Entry) (assigned : List Assigned) (a : Advertised) → Goes xs ys
    → IsAdvertised (record { own = own; now = moment; nodes = xs }) assigned a → IsAdvertised (record { own = own; now = now; nodes = ys }) assigned a
advertised_goes own moment now xs ys assigned a goes (inl (x, there, is)) =
    let to = goes x there in inl (to.0, to.1, of_other own x to.0 a to.2 is)
advertised_goes own moment now xs ys assigned a goes (inr is) = inr is

forth : (xs ys : List Entry) → AdvertiseAlike xs ys → Goes xs ys
forth xs ys same x (k, within, is) = (
  get_or ys k x,
  Contains-get_or ys k x (subst (λ (n : ℕ). k < n) (sym same.as_many) within),
  subst (λ (z : Entry). AdvertisesAs z (get_or ys k x)) is (same.each k x within),
)

backwards : (xs ys : List Entry) → AdvertiseAlike xs ys → Goes ys xs
backwards xs ys same y (k, within, is) =
    let here : k < length xs = subst (λ (n : ℕ). k < n) same.as_many within in
    (get_or xs k y, Contains-get_or xs k y here, back (get_or xs k y) y (subst (λ (z : Entry). AdvertisesAs (get_or xs k y) z) is (same.each k y here)))

-- so an index of the ones is an index of the others
pub alike_advertised : (own moment : ℕ) (xs : List Entry) (view : PlainView) (known assigned : List Assigned) (advertised : List Advertised)
    → own ≡ view.own → known ≡ assigned → AdvertiseAlike xs view.nodes
    → AreAdvertised (record { own = own; now = moment; nodes = xs }) known advertised → AreAdvertised view assigned advertised
alike_advertised own moment xs view known assigned advertised same_own same_held same are a =
    subst (λ (n : ℕ). Contains advertised a ↔ IsAdvertised (record { own = n; now = view.now; nodes = view.nodes }) assigned a) same_own
    (subst (λ (held : List Assigned). Contains advertised a ↔ IsAdvertised (record { own = own; now = view.now; nodes = view.nodes }) held a) same_held (
      λ there. advertised_goes own moment view.now xs view.nodes known a (forth xs view.nodes same) ((are a).0 there),
      λ is. (are a).1 (advertised_goes own view.now moment view.nodes xs known a (backwards xs view.nodes same) is),
    ))
