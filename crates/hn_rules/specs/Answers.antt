-- The answers of an arrival (RFC 7787, section 4.4): each once, as it was when it came up.
use Rattle.std.specs.Prelude.{Bool, ◌==◌, true, false, if◌then◌else◌, List, [], ◌∷◌, ◌++◌}
use Rattle.std.specs.List.{list_any}
use Rattle.hn_tlv.specs.Grammar.{spelling}
use Rattle.hn_typed.specs.Item.{PlainItem}
use Rattle.hn_typed.specs.Written.{tlv_of}
use Rattle.hn_rules.specs.declared.answers.Subject.{Subject}
use Rattle.hn_rules.specs.declared.answers.Subject.TheVariants.{NetworkRequest, NetworkState, NodeRequest, NodeState, NodeData}
use Rattle.hn_rules.specs.declared.answers.Answer.{Answer}
use Rattle.hn_rules.specs.declared.running.Running.{Running}

-- whether two answers are about the same
abbrev pub same_subject : Subject → Subject → Bool
same_subject NetworkRequest NetworkRequest = true
same_subject NetworkState NetworkState = true
same_subject (NodeRequest a) (NodeRequest b) = a.0 == b.0
same_subject (NodeState a) (NodeState b) = a.0 == b.0
same_subject (NodeData a) (NodeData b) = a.0 == b.0
same_subject _ _ = false

-- whether there is an answer about that
abbrev pub is_answered : Subject → List Answer → Bool
is_answered subject answers = list_any (λ a. same_subject subject a.subject) answers

-- an answer comes up; a further one about the same is not added, whatever its contents
abbrev pub answered : Subject → PlainItem → List Answer → List Answer
answered subject item answers =
    if is_answered subject answers then answers
    else answers ++ record { subject = subject; tlv = spelling (tlv_of item) } ∷ []

abbrev pub with_answer : Subject → PlainItem → Running → Running
with_answer subject item r = record r { answers = answered subject item r.answers }
