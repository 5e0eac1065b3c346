-- Facts that rules keep, how they compose, and changes one after another.
use Rattle.hn_base.proofs.Names.{◌≡◌, ◌∙◌, List, [], ◌∷◌, ◌++◌, Option, Some, None, refl, sym, subst, arith, Contains-append_right, Then, Each, OnSome, KeepsBy}
use Rattle.hn_rules.proofs.Names.{Contains, EpId, PlainTlv, Port, port_at, Running, Rule, AtPort, Change, change, IsAllowed, Leads, IsOfChanges, EachKeeps}
use Rattle.hn_rules.specs.Laws.{MakesChanges}

module _ (P : Running → Type 0) where
  -- ---- composition

  abbrev pub Keeps : Rule → Type 0
  Keeps rule = (r a : Running) → rule r a → P r → P a

  pub keeps_plain : (f : Running → Running) → ((r : Running) → P r → P (f r)) → Keeps (λ r a. a ≡ f r)
  keeps_plain f keeps r a is h = subst P (sym is) (keeps r h)

  pub keeps_both : (first second : Rule) → Keeps first → Keeps second → Keeps (Then first second)
  keeps_both first second one two r a h p = two h.0 a h.2 (one r h.0 h.1 p)

  -- a rule for each element, which may use that it is one
  pub keeps_each_of : {A : Type 0} (rule : A → Rule) → (xs : List A) → ((x : A) → Contains xs x → Keeps (rule x)) → Keeps (Each rule xs)
  keeps_each_of rule [] all r a is p = subst P (sym is) p
  keeps_each_of rule (x ∷ xs) all r a h p =
      keeps_each_of rule xs (λ y there. all y (Contains-append_right (x ∷ []) xs y there)) h.0 a h.2 (all x (0, omega arith, refl) r h.0 h.1 p)

  pub keeps_each : {A : Type 0} (rule : A → Rule) → ((x : A) → Keeps (rule x)) → (xs : List A) → Keeps (Each rule xs)
  keeps_each rule all xs = keeps_each_of rule xs (λ x there. all x)

  -- the rule of an endpoint, which may use where it was found
  pub keeps_option : (at : EpId) (rule : Port → Rule) → ((port : Port) (r a : Running) → port_at at r.state.ports ≡ Some port → rule port r a → P r → P a) → Keeps (AtPort at rule)
  keeps_option at rule one r a h p = by_option (port_at at r.state.ports) refl h
    where
      by_option : (o : Option Port) → port_at at r.state.ports ≡ o → OnSome rule o r a → P a
      by_option None none same = subst P (sym same) p
      by_option (Some port) found holds = one port r a found holds p

-- ---- changes one after another

module _ (tlvs : List PlainTlv) where
  -- a fact that each change keeps, changes one after another keep
  pub leads_keep : (P : Running → Type 0) → EachKeeps tlvs P → (cs : List Change) (r a : Running) → Leads tlvs cs r a → P r → P a
  leads_keep P each [] r a is p = subst P (sym is) p
  leads_keep P each (c ∷ cs) r a (allowed, leads) p = leads_keep P each cs (change c r) a leads (each c r allowed p)

  -- one change more
  leads_more : (cs : List Change) (c : Change) (r m : Running) → Leads tlvs cs r m → IsAllowed tlvs c m → Leads tlvs (cs ++ c ∷ []) r (change c m)
  leads_more [] c r m is allowed = subst (λ (x : Running). Leads tlvs (c ∷ []) x (change c m)) is (allowed, refl)
  leads_more (d ∷ cs) c r m (first, leads) allowed = (first, leads_more cs c (change d r) m leads allowed)

  -- that changes lead there from a state is such a fact
  pub each_leads : (start : Running) → EachKeeps tlvs (IsOfChanges tlvs start)
  each_leads start c r allowed (cs, leads) = (cs ++ c ∷ [], leads_more cs c start r leads allowed)

  -- ---- rules that keep what each change keeps

  abbrev pub Walk : Rule → Type 1
  Walk rule = (P : Running → Type 0) → EachKeeps tlvs P → Keeps P rule

  -- each run of such a rule is a list of changes
  pub of_walk : (rule : Rule) → Walk rule → MakesChanges tlvs rule
  of_walk rule walk before after holds = walk (IsOfChanges tlvs before) (each_leads before) before after holds ([], refl)

  -- a part that each change leaves as it was, such a rule leaves so
  pub part_stays : {A : Type 0} (part : Running → A) → ((c : Change) (r : Running) → IsAllowed tlvs c r → part (change c r) ≡ part r) → (rule : Rule) → Walk rule → KeepsBy part rule
  part_stays part stays rule walk before after holds =
      walk (λ r. part r ≡ part before) (λ c r allowed same. stays c r allowed ∙ same) before after holds refl
