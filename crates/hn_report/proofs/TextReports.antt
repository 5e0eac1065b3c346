-- What a report says of the routers of its names.
use Rattle.hn_base.proofs.Names.{◌≡◌, ◌∙◌, ℕ, Bool, List, [], ◌∷◌, ◌++◌, Option, None, Some, refl, ap, sym, length, option_map, option_or, decimal, id_text, name_text}
use Rattle.hn_report.proofs.Names.{codes, Name, member_named, yes_no}
use Rattle.std.specs.Prelude.{Decides, ◌↔◌, IsTrue}
use Rattle.hn_hash.specs.declared.agreement.Agreement.{Agreement}
use Rattle.hn_router.specs.declared.router.Router.{Router}
use Rattle.hn_world.specs.Leaves.{Agrees}
use Rattle.hn_store.specs.declared.table.Table.{Table}
use Rattle.hn_base.proofs.DecidingTests.{neither_given, some_there}
use Rattle.hn_base.specs.declared.ids.NodeId.{NodeId}
use Rattle.hn_report.specs.RouterReports.{Compares, show_line, compare_line}
use Rattle.hn_rules.specs.Nodes.{leaves_of}
use Rattle.hn_world.specs.Asked.{unless_known, unless_runs, unless_both_run}
use Rattle.hn_world.specs.declared.member.Member.{Member}
use Rattle.hn_world.specs.declared.parts.Parts.{Parts}

-- the router of a name
pub member_of : (found : Option Member) (router : Router) → Some router ≡ option_map (λ m. m.router) found → (m : Member) × (found ≡ Some m) × (router ≡ m.router)
member_of None router is = absurd cc
member_of (Some m) router is = (m, refl, cc)

-- the text of a report on a router
abbrev pub shown : Name → NodeId → ℕ → ℕ → ℕ → List ℕ → List ℕ
shown name id number reach held running =
    codes "show " ++ name_text name ++ codes " id=" ++ id_text id.0 ++ codes " number=" ++ decimal number
    ++ codes " reach=" ++ decimal reach ++ codes " held=" ++ decimal held
    ++ codes " running=" ++ running ++ 10 ∷ []

pub shows : (name : Name) (m : Member) (id : NodeId) (number : ℕ) (reach : List NodeId) (table : Table) (held : ℕ) (running line : List ℕ)
    → id ≡ m.router.id → number ≡ m.router.number → reach ≡ m.router.reach → table ≡ m.router.table → held ≡ length table.entries
    → running ≡ yes_no m.running → line ≡ shown name id number (length reach) held running → line ≡ show_line name m
shows name m id number reach table held running line id_is number_is reach_is table_is held_is running_is line_is =
    line_is
    ∙ ap (λ (x : NodeId). shown name x number (length reach) held running) id_is
    ∙ ap (λ x. shown name m.router.id x (length reach) held running) number_is
    ∙ ap (λ (x : List NodeId). shown name m.router.id m.router.number (length x) held running) reach_is
    ∙ ap (λ x. shown name m.router.id m.router.number (length m.router.reach) x running) (held_is ∙ ap (λ (t : Table). length t.entries) table_is)
    ∙ ap (λ x. shown name m.router.id m.router.number (length m.router.reach) (length m.router.table.entries) x) running_is

-- the line on two routers
pub compares : (left right : Name) (w : Parts) (agreement : Agreement) (same_ids : Bool) (line : List ℕ) → unless_both_run left right w ≡ None
    → ((a b : Member) → member_named (name_text left) w ≡ Some a → member_named (name_text right) w ≡ Some b → Agrees (leaves_of a.router) (leaves_of b.router) agreement)
    → ((a b : Member) → member_named (name_text left) w ≡ Some a → member_named (name_text right) w ≡ Some b → IsTrue same_ids ↔ (a.router.reach ≡ b.router.reach))
    → line ≡ compare_line left right agreement same_ids → Compares left right w line
compares left right w agreement same_ids line none agrees ids line_is =
    let first = neither_given (unless_known left w) (option_or (unless_known right w) (option_or (unless_runs left w) (unless_runs right w))) none in
    let second = neither_given (unless_known right w) (option_or (unless_runs left w) (unless_runs right w)) first.1 in
    let a = some_there 7 (λ (_ : Member). None) (member_named (name_text left) w) first.0 in
    let b = some_there 7 (λ (_ : Member). None) (member_named (name_text right) w) second.0 in
    record {
      a = a.0;
      b = b.0;
      is_left = a.1;
      is_right = b.1;
      is_line = record { agreement = agreement; same_ids = same_ids; agrees = agrees a.0 b.0 a.1 b.1; ids = ids a.0 b.0 a.1 b.1; line_is = line_is };
    }

-- the routers of two names reach the same
pub reach_same : (r : Bool) (left right : Option Member) (a b : Router) (xs ys : List NodeId) → Some a ≡ option_map (λ m. m.router) left
    → Some b ≡ option_map (λ m. m.router) right → xs ≡ a.reach → ys ≡ b.reach → Decides r (xs ≡ ys)
    → (m n : Member) → left ≡ Some m → right ≡ Some n → IsTrue r ↔ (m.router.reach ≡ n.router.reach)
reach_same r left right a b xs ys found found' xs_is ys_is same m n is is' =
    let first = member_of left a found in
    let second = member_of right b found' in
    let m_is : first.0 ≡ m = cc in
    let n_is : second.0 ≡ n = cc in
    let mine : xs ≡ m.router.reach = xs_is ∙ ap (λ (x : Router). x.reach) (first.2 ∙ ap (λ (x : Member). x.router) m_is) in
    let its : ys ≡ n.router.reach = ys_is ∙ ap (λ (x : Router). x.reach) (second.2 ∙ ap (λ (x : Member). x.router) n_is) in
    (λ true_is. sym mine ∙ same.0 true_is ∙ its, λ reach_is. same.1 (mine ∙ reach_is ∙ sym its))
