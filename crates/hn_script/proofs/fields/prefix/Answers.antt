-- What is read is the prefix of the word; where nothing is, the word writes no prefix.
use Rattle.hn_base.proofs.Names.{◌≡◌, ℕ, List, Result, Ok, Err, MatchResult, rules, PlainPrefix}
use Rattle.hn_script.proofs.Names.{IsPrefixText, Prefixed}
use Rattle.std.proofs.Common.{IfOk}
use Rattle.std.specs.Result.{IsErrAnd}
use Rattle.hn_prefix.specs.declared.parse.BadText.{BadText}
use Rattle.hn_script.specs.Reading.{ReadsField}
use Rattle.hn_script.proofs.fields.prefix.Goals as goal

read : (word : List ℕ) (r : Result PlainPrefix BadText) (answer : Result PlainPrefix ℕ) (IsCode : BadText → ℕ → Type 0)
    → IfOk r (IsPrefixText word) → ((p : PlainPrefix) → IsPrefixText word p → r ≡ Ok p)
    → MatchResult r (λ p. answer ≡ Ok p) (λ e. IsErrAnd answer (IsCode e))
    → ((e : BadText) (code : ℕ) → IsCode e code → code ≡ 4) → ReadsField Prefixed word answer
read word (Ok p) answer IsCode found every is four = rw is found
read word (Err e) (Ok p) IsCode found every is four = absurd is
read word (Err e) (Err code) IsCode found every is four = (four e code is, λ p h. let same = every p h in cc)

pub returns : goal.returns
returns c =
    read c.args.word.now c.parse.result c.map_err.result _ c.parse.ensures.found c.parse.ensures.every c.map_err.ensures.cases
    (λ e code is. search rules)
