-- The router that `node` serves at first.
use Rattle.hn_base.proofs.Names.{◌≡◌, ◌∙◌, ◌<◌, ℕ, suc, Bool, true, false, List, [], ◌∷◌, ◌++◌, append_assoc, length, get_or, take, drop, refl, sym, ap, subst, drop-cons, take-append-drop}
use Rattle.hn_forms.proofs.Names.{append-nil, EpId, NodeId, Port, endpoints_of, Attach, Happened, Done, State, NodeLine, LinesHappen, IsSetUp, IsOverfull, node_event_of, is_too_many}
use Rattle.std.proofs.Common.{if◌then◌else◌}
use Rattle.std.specs.Prelude.{IsTrue}
use Rattle.hn_own.specs.Ports.{is_attached}
use Rattle.hn_router.specs.Act.{PlainEvent, is_refused}
use Rattle.hn_router.specs.Laws.{EndpointsFollow, LimitStays, endpoints_by}
use Rattle.hn_router.specs.New.{IsNew}
use Rattle.hn_script.specs.declared.node_file.NodeLine.TheVariants as line

-- ---- the endpoint

abbrev pub one : EpId
one = record { 0 = 1 }

pub attached_alone : (ports : List Port) → endpoints_of ports ≡ one ∷ [] → IsTrue (is_attached one ports)
attached_alone [] is = absurd cc
attached_alone (port ∷ ports) is =
    let first : port.id ≡ one = cc in
    rw first refl

-- a new router that is attached has this endpoint alone
pub ends_of_new : EndpointsFollow → (id : NodeId) (now : ℕ) (new after : State) (done : Done) → IsNew id 256 now new → Happened now (Attach one) new after done → endpoints_of after.ports ≡ one ∷ []
ends_of_new follow id now new after done is happened =
    follow now (Attach one) new after done happened ∙ rw is.ports_are refl

-- and a line of the file changes nothing of that
same_ends : (e : PlainEvent) (b : Bool) (ends : List EpId) → endpoints_by e ends ≡ ends → (if b then ends else endpoints_by e ends) ≡ ends
same_ends e true ends is = refl
same_ends e false ends is = is

keeps_ends : (l : NodeLine) (ends : List EpId) → endpoints_by (node_event_of l) ends ≡ ends
keeps_ends (line.Caps caps) ends = refl
keeps_ends (line.External prefix valid preferred) ends = refl

pub ends_of_line : EndpointsFollow → (l : NodeLine) (now : ℕ) (before after : State) (done : Done) → Happened now (node_event_of l) before after done
    → endpoints_of after.ports ≡ endpoints_of before.ports
ends_of_line follow l now before after done happened =
    follow now (node_event_of l) before after done happened ∙ same_ends (node_event_of l) (is_refused (node_event_of l) before) (endpoints_of before.ports) (keeps_ends l (endpoints_of before.ports))

-- ---- lines one after another

-- one more line
lines_more : (now : ℕ) (lines : List (ℕ × NodeLine)) (l : ℕ × NodeLine) (words : List ℕ) (before between after : State) (done : Done)
    → LinesHappen now lines words before between → is_too_many between l.1 ≡ false → Happened now (node_event_of l.1) between after done
    → LinesHappen now (lines ++ l ∷ []) (words ++ done.words) before after
lines_more now [] l words before between after done h room happened = (
  after,
  done,
  [],
  subst (λ (s : State). is_too_many s l.1 ≡ false) h.1 room,
  subst (λ (s : State). Happened now (node_event_of l.1) s after done) h.1 happened,
  ap (λ (w : List ℕ). w ++ done.words) h.0 ∙ sym (append-nil done.words),
  (refl, refl),
)
lines_more now (k ∷ lines) l words before between after done h room happened = (
  h.0,
  h.1,
  h.2 ++ done.words,
  h.3,
  h.4,
  ap (λ (w : List ℕ). w ++ done.words) h.5 ∙ append_assoc h.1.words h.2 done.words,
  lines_more now lines l h.2 h.0 between after done h.6 room happened,
)

-- no line yet
pub set_up_first : (id : NodeId) (now : ℕ) (new after : State) (done : Done) → IsNew id 256 now new → Happened now (Attach one) new after done → IsSetUp id [] now done.words after
set_up_first id now new after done is happened = record {
  new = new;
  is_new = is;
  attached = after;
  done = done;
  attaches = happened;
  rest = [];
  words_are = sym (append-nil done.words);
  happen = (refl, refl);
}

-- one line more
pub set_up_more : (id : NodeId) (lines : List (ℕ × NodeLine)) (l : ℕ × NodeLine) (now : ℕ) (words : List ℕ) (router after : State) (done : Done)
    → IsSetUp id lines now words router → is_too_many router l.1 ≡ false → Happened now (node_event_of l.1) router after done
    → IsSetUp id (lines ++ l ∷ []) now (words ++ done.words) after
set_up_more id lines l now words router after done up room happened = record {
  new = up.new;
  is_new = up.is_new;
  attached = up.attached;
  done = up.done;
  attaches = up.attaches;
  rest = up.rest ++ done.words;
  words_are = ap (λ (w : List ℕ). w ++ done.words) up.words_are ∙ append_assoc up.done.words up.rest done.words;
  happen = lines_more now lines l up.rest up.attached router after done up.happen room happened;
}

-- the line at which there are too many prefixes
pub overfull_at : (id : NodeId) (lines : List (ℕ × NodeLine)) (i : ℕ) (l : ℕ × NodeLine) (now number : ℕ) (words : List ℕ) (router : State) → i < length lines → l ≡ get_or lines i l → l.0 ≡ number
    → IsSetUp id (take i lines) now words router → is_too_many router l.1 ≡ true → IsOverfull id lines now number
overfull_at id lines i l now number words router within is same up full = record {
  front = take i lines;
  line = l.1;
  rest = drop (suc i) lines;
  words = words;
  router = router;
  lines_are = sym (take-append-drop i lines)
      ∙ ap (λ (xs : List (ℕ × NodeLine)). take i lines ++ xs) (drop-cons lines i l within)
      ∙ ap (λ (x : ℕ × NodeLine). take i lines ++ x ∷ drop (suc i) lines) (sym is)
      ∙ ap (λ (n : ℕ). take i lines ++ (n, l.1) ∷ drop (suc i) lines) same;
  set_up = up;
  full = full;
}

-- ---- the limit of its table

lines_limit : LimitStays → (now : ℕ) (lines : List (ℕ × NodeLine)) (words : List ℕ) (before after : State) → LinesHappen now lines words before after → after.table.limit ≡ before.table.limit
lines_limit stays now [] words before after h = ap (λ (s : State). s.table.limit) h.1
lines_limit stays now (l ∷ lines) words before after h = lines_limit stays now lines h.2 h.0 after h.6 ∙ stays now (node_event_of l.1) before h.0 h.1 h.4

pub limit_of_set_up : LimitStays → (id : NodeId) (lines : List (ℕ × NodeLine)) (now : ℕ) (words : List ℕ) (router : State) → IsSetUp id lines now words router → router.table.limit ≡ 256
limit_of_set_up stays id lines now words router up =
    let begins : up.new.table.limit ≡ 256 = rw up.is_new.table_is refl in
    lines_limit stays now lines up.rest up.attached router up.happen ∙ stays now (Attach one) up.new up.attached up.done up.attaches ∙ begins
