-- Where the wire tells what waits, a copy is carried to one thing.
use Rattle.hn_base.proofs.Names.{◌≡◌, ◌∙◌, ◌+◌, ℕ, List, [], ◌∷◌, ◌++◌, Option, None, Some, refl, sym, ap, subst, slice_get, remove, same_Some, none-some}
use Rattle.hn_lab.proofs.Names.{Datagram, Sends, Carried, Same, Lost, Other, Carries, IsKnownRoute, Route, Mail, OverWire}
use Rattle.hn_wire.specs.Wires.{Arrived, TakesAt, TakesOf, TakesFirst}
use Rattle.hn_play.specs.Carrying.{IsCarried, CarriesOver}

-- ---- what is taken

same_arrived : (a b : Arrived) → a.from ≡ b.from → a.bytes ≡ b.bytes → a ≡ b
same_arrived a b from bytes = λ i. record { from = from i; bytes = bytes i }

one_first : (at : ℕ) (g k : Arrived) (ds a b : List Datagram) → TakesFirst at g ds a → TakesFirst at k ds b → (g ≡ k) × (a ≡ b)
one_first at g k ds a b h j =
    let place : h.place ≡ j.place = same_Some h.place j.place (sym h.first ∙ j.first) in
    let there : slice_get ds h.place ≡ Some j.datagram = subst (λ (n : ℕ). slice_get ds n ≡ Some j.datagram) (sym place) j.is_first in
    let same : h.datagram ≡ j.datagram = same_Some h.datagram j.datagram (sym h.is_first ∙ there) in
    let from = h.from_is ∙ ap (λ (d : Datagram). d.from) same ∙ sym j.from_is in
    let bytes = h.bytes_are ∙ ap (λ (d : Datagram). d.bytes) same ∙ sym j.bytes_are in
    (same_arrived g k from bytes, h.rest ∙ ap (remove ds) place ∙ sym j.rest)

one_take : (at : ℕ) (g k : Option Arrived) (ds a b : List Datagram) → TakesOf at g ds a → TakesOf at k ds b → (g ≡ k) × (a ≡ b)
one_take at None None ds a b h j = (refl, h.1 ∙ sym j.1)
one_take at None (Some k) ds a b h j = absurd (none-some j.place (sym h.0 ∙ j.first))
one_take at (Some g) None ds a b h j = absurd (none-some h.place (sym j.0 ∙ h.first))
one_take at (Some g) (Some k) ds a b h j = let one = one_first at g k ds a b h j in (ap Some one.0, one.1)

-- what comes of bytes by what was taken
one_carried : (bytes : List ℕ) (got : Option Arrived) (x y : Carried) → IsCarried bytes got x → IsCarried bytes got y → x ≡ y
one_carried bytes None Lost Lost h k = refl
one_carried bytes None Lost Same h k = absurd k
one_carried bytes None Lost (Other o) h k = absurd k
one_carried bytes None Same y h k = absurd h
one_carried bytes None (Other o) y h k = absurd h
one_carried bytes (Some g) Same Same h k = refl
one_carried bytes (Some g) Same Lost h k = absurd k
one_carried bytes (Some g) Same (Other o) h k = absurd (k.1 h)
one_carried bytes (Some g) (Other o) Same h k = absurd (h.1 k)
one_carried bytes (Some g) (Other o) Lost h k = absurd k
one_carried bytes (Some g) (Other o) (Other q) h k = ap Other (h.0 ∙ sym k.0)
one_carried bytes (Some g) Lost y h k = absurd h

-- ---- over a wire that tells what waits

-- one that tells before tells after
pub tells_sent : (d : Datagram) (ds : List Datagram) (after : Option (List Datagram)) → Sends d (Some ds) after → after ≡ Some (ds ++ d ∷ [])
tells_sent d ds None h = absurd h
tells_sent d ds (Some after) h = ap Some h

tells_taken : (at : ℕ) (got : Option Arrived) (ds : List Datagram) (after : Option (List Datagram)) → TakesAt at got (Some ds) after
    → (rest : List Datagram) × (after ≡ Some rest) × TakesOf at got ds rest
tells_taken at got ds None h = absurd h
tells_taken at got ds (Some after) h = (after, refl, h)

-- bytes are carried over it: what waits afterwards is known
record IsOver (base : ℕ) (bytes : List ℕ) (ds : List Datagram) (x : Carried) (a : Option (List Datagram)) : Type 0 where
  got : Option Arrived
  rest : List Datagram
  after_is : a ≡ Some rest
  takes : TakesOf (base + 1) got (ds ++ record { from = base; to = base + 1; bytes = bytes } ∷ []) rest
  is_carried : IsCarried bytes got x

over : (base : ℕ) (bytes : List ℕ) (ds : List Datagram) (x : Carried) (a : Option (List Datagram)) → CarriesOver base bytes x (Some ds) a → IsOver base bytes ds x a
over base bytes ds x a h =
    let sent = tells_sent _ ds h.between h.sends in
    let taken = tells_taken (base + 1) h.got _ a (subst (λ (between : Option (List Datagram)). TakesAt (base + 1) h.got between a) sent h.takes) in
    record { got = h.got; rest = taken.0; after_is = taken.1; takes = taken.2; is_carried = h.is_carried }

one_over : (base : ℕ) (bytes : List ℕ) (ds : List Datagram) (x y : Carried) (a b : Option (List Datagram)) → IsOver base bytes ds x a → IsOver base bytes ds y b → (x ≡ y) × (a ≡ b)
one_over base bytes ds x y a b h k =
    let one = one_take (base + 1) h.got k.got _ h.rest k.rest h.takes k.takes in
    let carried = subst (λ (got : Option Arrived). IsCarried bytes got y) (sym one.0) k.is_carried in
    (one_carried bytes h.got x y h.is_carried carried, h.after_is ∙ ap Some one.1 ∙ sym k.after_is)

told_over : (base : ℕ) (bytes : List ℕ) (ds : List Datagram) (x : Carried) (waiting a : Option (List Datagram)) → waiting ≡ Some ds → CarriesOver base bytes x waiting a → IsOver base bytes ds x a
told_over base bytes ds x waiting a told h = over base bytes ds x a (subst (λ (w : Option (List Datagram)). CarriesOver base bytes x w a) told h)

-- ---- the law

pub one_carriage : (bytes : List ℕ) (r a b : Route) (x y : Carried) → IsKnownRoute r → Carries bytes x r a → Carries bytes y r b → (x ≡ y) × (a ≡ b)
one_carriage bytes Mail a b x y told h k = (h.0 ∙ sym k.0, h.1 ∙ sym k.1)
one_carriage bytes (OverWire base waiting) a b x y told h k =
    let first = told_over base bytes told.0 x waiting h.0 told.1 h.1 in
    let second = told_over base bytes told.0 y waiting k.0 told.1 k.1 in
    let one = one_over base bytes told.0 x y h.0 k.0 first second in
    (one.0, h.2 ∙ ap (OverWire base) one.1 ∙ sym k.2)

-- afterwards what waits is still known
pub still_told : (bytes : List ℕ) (r a : Route) (x : Carried) → IsKnownRoute r → Carries bytes x r a → IsKnownRoute a
still_told bytes Mail a x told h = subst IsKnownRoute (sym h.1) tt
still_told bytes (OverWire base waiting) a x told h =
    let is = told_over base bytes told.0 x waiting h.0 told.1 h.1 in
    subst IsKnownRoute (sym h.2) (is.rest, is.after_is)
