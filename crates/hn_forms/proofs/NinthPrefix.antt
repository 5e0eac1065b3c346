-- Whether a line is a ninth prefix: the lines before it say so, whatever the moment and the random words.
use Rattle.hn_base.proofs.Names.{◌≡◌, ◌∙◌, inl, inr, ℕ, Bool, true, false, not, cond, List, [], ◌∷◌, ◌++◌, map, filter, length, refl, sym, ap, subst, map-append, length-map, list_any, PlainPrefix}
use Rattle.hn_base.proofs.Names.{Then, KeepsBy}
use Rattle.hn_forms.proofs.Names.{EpId, NodeId, Port, endpoints_of, Attach, Done, State, NodeLine, node_event_of, is_too_many, LinesHappen, IsSetUp, IsOverfull}
use Rattle.std.proofs.Common.{◌==◌, ◌&&◌, ◌||◌}
use Rattle.std.specs.Prelude.{nat_lt}
use Rattle.hn_base.proofs.RulesKeepPart.{kept_then, kept_each, kept_on}
use Rattle.hn_own.specs.OwnPrefixes.{is_before, may_delegate, delegated_with, own_prefix}
use Rattle.hn_own.specs.Ports.{port_at}
use Rattle.hn_own.specs.declared.own_prefixes.OwnPrefix.{OwnPrefix}
use Rattle.hn_router.specs.Act.{Happened}
use Rattle.hn_rules.specs.Refresh.{network_state_hash, IsPublishing, IsReaching, IsPortReset, IsHashing, IsRefresh}
use Rattle.hn_rules.specs.Rules.{AtPort}
use Rattle.hn_rules.specs.declared.running.Running.{Running}
use Rattle.hn_script.specs.declared.node_file.NodeLine.TheVariants as line

-- ---- own delegated prefixes without their lifetimes

abbrev bare : List OwnPrefix → List PlainPrefix
bare list = map (λ p. p.prefix) list

any_of_map : {X Y : Type 0} (p : Y → Bool) (f : X → Y) (xs : List X) → list_any (λ x. p (f x)) xs ≡ list_any p (map f xs)
any_of_map p f [] = refl
any_of_map p f (x ∷ xs) = ap (λ (b : Bool). p (f x) || b) (any_of_map p f xs)

filter_of_map : {X Y : Type 0} (p : Y → Bool) (f : X → Y) (xs : List X) → map f (filter (λ x. p (f x)) xs) ≡ filter p (map f xs)
filter_of_map p f [] = refl
filter_of_map {X} {Y} p f (x ∷ xs) = by_test (p (f x)) (filter_of_map p f xs)
  where
    by_test : (b : Bool) → map f (filter (λ y. p (f y)) xs) ≡ filter p (map f xs)
        → map f (cond b (x ∷ filter (λ y. p (f y)) xs) (filter (λ y. p (f y)) xs)) ≡ cond b (f x ∷ filter p (map f xs)) (filter p (map f xs))
    by_test true rest = ap (λ (ys : List Y). f x ∷ ys) rest
    by_test false rest = rest

-- whether a prefix may be added is a matter of these
same_room : (at : PlainPrefix) (a b : List OwnPrefix) → bare a ≡ bare b → may_delegate at a ≡ may_delegate at b
same_room at a b same =
    let is_it : PlainPrefix → Bool = λ p. p.bits == at.bits && p.len == at.len in
    let prefix_of : OwnPrefix → PlainPrefix = λ p. p.prefix in
    let found = any_of_map is_it prefix_of a ∙ ap (list_any is_it) same ∙ sym (any_of_map is_it prefix_of b) in
    let long = sym (length-map a prefix_of) ∙ ap length same ∙ length-map b prefix_of in
    λ i. found i || nat_lt (long i) 8

-- and so are those after it is added
bare_with : (now : ℕ) (at : PlainPrefix) (valid preferred : ℕ) (list : List OwnPrefix)
    → bare (delegated_with (own_prefix now at valid preferred) list) ≡ filter (λ p. is_before p at) (bare list) ++ at ∷ filter (λ p. is_before at p) (bare list)
bare_with now at valid preferred list =
    let prefix_of : OwnPrefix → PlainPrefix = λ p. p.prefix in
    let own = own_prefix now at valid preferred in
    let lower = filter_of_map (λ p. is_before p at) prefix_of list in
    let higher = filter_of_map (λ p. is_before at p) prefix_of list in
    map-append prefix_of (filter (λ p. is_before p.prefix at) list) (own ∷ filter (λ p. is_before at p.prefix) list) ∙ (λ i. lower i ++ at ∷ higher i)

-- ---- what an event does to them

abbrev delegated_in : Running → List OwnPrefix
delegated_in r = r.state.delegated

publishing_keeps : KeepsBy delegated_in IsPublishing
publishing_keeps before after (inl h) = ap delegated_in h.1
publishing_keeps before after (inr h) = ap delegated_in h.1.gives

reaching_keeps : KeepsBy delegated_in IsReaching
reaching_keeps before after h = ap delegated_in h.gives

reset_keeps : (port : Port) → KeepsBy delegated_in (IsPortReset port)
reset_keeps port before after (inl h) = ap delegated_in h.1
reset_keeps port before after (inr h) = ap delegated_in h.1.1

hashing_keeps : KeepsBy delegated_in IsHashing
hashing_keeps before after (inl h) = ap delegated_in h.1
hashing_keeps before after (inr h) =
    kept_each delegated_in (λ (at : EpId). AtPort at IsPortReset) (λ at b a. kept_on delegated_in IsPortReset reset_keeps (port_at at b.state.ports) b a)
    (endpoints_of before.state.ports) (record before { state = record before.state { net = network_state_hash before.state } }) after h.1

refresh_keeps : KeepsBy delegated_in IsRefresh
refresh_keeps =
    kept_then delegated_in IsPublishing (Then IsReaching IsHashing) publishing_keeps
    (kept_then delegated_in IsReaching IsHashing reaching_keeps hashing_keeps)

-- attaching an endpoint keeps them
unadded : (at : EpId) (now : ℕ) (s next : State) (done : Done) → Happened now (Attach at) s next done → next.delegated ≡ s.delegated
unfolding Happened
unadded at now s next done (after, inl h, due, is) = ap (λ (x : State). x.delegated) due.2 ∙ ap delegated_in h.1
unadded at now s next done (after, inr h, due, is) =
    ap (λ (x : State). x.delegated) due.2 ∙ refresh_keeps h.1.0 after h.1.2 ∙ ap delegated_in h.1.1.gives

-- those after a line of the file
abbrev by_line : ℕ → NodeLine → List OwnPrefix → List OwnPrefix
by_line now (line.Caps caps) list = list
by_line now (line.External prefix valid preferred) list = delegated_with (own_prefix now prefix valid preferred) list

after_line : (now : ℕ) (l : NodeLine) (s next : State) (done : Done) → is_too_many s l ≡ false → Happened now (node_event_of l) s next done → next.delegated ≡ by_line now l s.delegated
unfolding Happened
after_line now (line.Caps caps) s next done room (after, inl h, due, is) = ap (λ (x : State). x.delegated) due.2 ∙ ap delegated_in h.1
after_line now (line.Caps caps) s next done room (after, inr h, due, is) =
    ap (λ (x : State). x.delegated) due.2 ∙ refresh_keeps h.1.0 after h.1.2 ∙ ap delegated_in h.1.1
after_line now (line.External prefix valid preferred) s next done room (after, inl h, due, is) =
    let both : true ≡ false = sym h.0 ∙ room in
    absurd cc
after_line now (line.External prefix valid preferred) s next done room (after, inr h, due, is) =
    ap (λ (x : State). x.delegated) due.2 ∙ refresh_keeps h.1.0 after h.1.2 ∙ ap delegated_in h.1.1

-- ---- two set-ups by the same lines, at two moments and with other words

same_line : (m n : ℕ) (l : NodeLine) (a b : List OwnPrefix) → bare a ≡ bare b → bare (by_line m l a) ≡ bare (by_line n l b)
same_line m n (line.Caps caps) a b same = same
same_line m n (line.External prefix valid preferred) a b same =
    bare_with m prefix valid preferred a
    ∙ ap (λ (ps : List PlainPrefix). filter (λ p. is_before p prefix) ps ++ prefix ∷ filter (λ p. is_before prefix p) ps) same
    ∙ sym (bare_with n prefix valid preferred b)

same_full : (l : NodeLine) (s t : State) → bare s.delegated ≡ bare t.delegated → is_too_many s l ≡ is_too_many t l
same_full (line.Caps caps) s t same = refl
same_full (line.External prefix valid preferred) s t same = ap not (same_room prefix s.delegated t.delegated same)

same_lines : (m n : ℕ) (lines : List (ℕ × NodeLine)) (words other : List ℕ) (s after t after_t : State) → bare s.delegated ≡ bare t.delegated
    → LinesHappen m lines words s after → LinesHappen n lines other t after_t → bare after.delegated ≡ bare after_t.delegated
same_lines m n [] words other s after t after_t same h k = ap (λ (x : State). bare x.delegated) h.1 ∙ same ∙ sym (ap (λ (x : State). bare x.delegated) k.1)
same_lines m n (l ∷ lines) words other s after t after_t same h k =
    let first = ap bare (after_line m l.1 s h.0 h.1 h.3 h.4) in
    let second = ap bare (after_line n l.1 t k.0 k.1 k.3 k.4) in
    same_lines m n lines h.2 k.2 h.0 after k.0 after_t (first ∙ same_line m n l.1 s.delegated t.delegated same ∙ sym second) h.6 k.6

-- at a line of those that happened there was room
had_room : (now : ℕ) (front : List (ℕ × NodeLine)) (l : ℕ × NodeLine) (rest : List (ℕ × NodeLine)) (words : List ℕ) (before after : State) → LinesHappen now (front ++ l ∷ rest) words before after
    → (between : State) × (taken : List ℕ) × LinesHappen now front taken before between × (is_too_many between l.1 ≡ false)
had_room now [] l rest words before after h = (before, [], (refl, refl), h.3)
had_room now (k ∷ front) l rest words before after h =
    let more = had_room now front l rest h.2 h.0 after h.6 in
    (more.0, h.1.words ++ more.1, (h.0, h.1, more.1, h.3, h.4, refl, more.2), more.3)

begins_bare : (id : NodeId) (lines : List (ℕ × NodeLine)) (now : ℕ) (words : List ℕ) (router : State) (up : IsSetUp id lines now words router) → up.attached.delegated ≡ []
begins_bare id lines now words router up = unadded (record { 0 = 1 }) now up.new up.attached up.done up.attaches ∙ up.is_new.no_prefixes

-- So a file with a ninth prefix at one moment sets no router up at any.
pub overfull_sets_none_up : (id : NodeId) (lines : List (ℕ × NodeLine)) (m n number : ℕ) (words : List ℕ) (router : State) → IsOverfull id lines m number → ¬ IsSetUp id lines n words router
overfull_sets_none_up id lines m n number words router full up =
    let one = full.set_up in
    let happen = subst (λ (ls : List (ℕ × NodeLine)). LinesHappen n ls up.rest up.attached router) full.lines_are up.happen in
    let room = had_room n full.front (number, full.line) full.rest up.rest up.attached router happen in
    let begun = begins_bare id full.front m full.words full.router one ∙ sym (begins_bare id lines n words router up) in
    let same = same_lines m n full.front one.rest room.1 one.attached full.router up.attached room.0 (ap bare begun) one.happen room.2 in
    let both : true ≡ false = sym full.full ∙ same_full full.line full.router room.0 same ∙ room.3 in
    absurd cc
