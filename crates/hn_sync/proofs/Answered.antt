-- Answers that come up, each once, and the items that they were written for.
use Rattle.hn_base.proofs.Names.{◌≡◌, ◌∙◌, ◌⊎◌, Bool, true, false, List, [], ◌∷◌, ◌++◌, map, Contains, ap, refl, inl, inr, eq-eqb, eqb-true, All-push, Contains-append_left, Contains-append_right}
use Rattle.hn_sync.proofs.Names.{All, Contains-head, Contains-from_map, any_of, same_node, Answer, Subject, NetworkRequest, NetworkState, NodeRequest, NodeState, NodeData, Running, with_answer}
use Rattle.hn_sync.proofs.Names.{PlainItem}
use Rattle.hn_rules.specs.Answers.{same_subject, is_answered, answered}
use Rattle.hn_sync.proofs.Sayings.{Saying, answer_of}

abbrev pub AnswersAre : Running → List Saying → Type 0
AnswersAre r said = r.answers ≡ map answer_of said

subject_itself : (a : Subject) → same_subject a a ≡ true
subject_itself NetworkRequest = refl
subject_itself NetworkState = refl
subject_itself (NodeRequest id) = eq-eqb id.0 id.0 refl
subject_itself (NodeState id) = eq-eqb id.0 id.0 refl
subject_itself (NodeData id) = eq-eqb id.0 id.0 refl

-- subjects of one kind about one node are one
pub one_subject : (a b : Subject) → same_subject a b ≡ true → a ≡ b
one_subject NetworkRequest NetworkRequest h = refl
one_subject NetworkState NetworkState h = refl
one_subject (NodeRequest x) (NodeRequest y) h = ap NodeRequest (same_node x y (eqb-true x.0 y.0 h))
one_subject (NodeState x) (NodeState y) h = ap NodeState (same_node x y (eqb-true x.0 y.0 h))
one_subject (NodeData x) (NodeData y) h = ap NodeData (same_node x y (eqb-true x.0 y.0 h))
one_subject _ _ h = absurd (cc)

-- one may have come up, and then there is one of its subject
pub record More (P : Saying → Type 0) (said : List Saying) (about : Subject) (i : PlainItem) (r : Running) : Type 0 where
  pub next : List Saying
  pub are : AnswersAre r next
  pub all : All P next
  pub keeps : (y : Saying) → Contains said y → Contains next y
  pub one : Saying
  pub there : Contains next one
  pub subject : about ≡ one.about
  pub shape : (next ≡ said) ⊎ (next ≡ said ++ record { about = about; item = i } ∷ [])

push_map : (said : List Saying) (s : Saying) → map answer_of said ++ answer_of s ∷ [] ≡ map answer_of (said ++ s ∷ [])
push_map [] s = refl
push_map (x ∷ said) s = ap (λ rest. answer_of x ∷ rest) (push_map said s)

pub with_more : (P : Saying → Type 0) (said : List Saying) (about : Subject) (i : PlainItem) (r : Running) → AnswersAre r said → All P said
    → P (record { about = about; item = i }) → More P said about i (with_answer about i r)
with_more P said about i r are all is = by_test (is_answered about (map answer_of said)) refl
  where
    now : answered about i r.answers ≡ answered about i (map answer_of said)
    now = ap (answered about i) are

    new : Saying
    new = record { about = about; item = i }

    by_test : (b : Bool) → is_answered about (map answer_of said) ≡ b → More P said about i (with_answer about i r)
    by_test true there =
        let found = any_of (λ (a : Answer). same_subject about a.subject) (map answer_of said) there in
        let from = Contains-from_map answer_of said found.0 found.1 in
        record {
          next = said;
          are = now ∙ rw there refl;
          all = all;
          keeps = λ y k. k;
          one = from.0;
          there = from.1;
          subject = one_subject about from.0.about (ap (λ (a : Answer). same_subject about a.subject) from.2 ∙ found.2);
          shape = inl refl;
        }
    by_test false none = record {
      next = said ++ new ∷ [];
      are = now ∙ rw none (push_map said new);
      all = All-push P said new all is;
      keeps = λ y k. Contains-append_left said (new ∷ []) y k;
      one = new;
      there = Contains-append_right said (new ∷ []) new (Contains-head new []);
      subject = refl;
      shape = inr refl;
    }
