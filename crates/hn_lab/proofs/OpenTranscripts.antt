-- What `lab` writes of the script of an open play.
use Rattle.hn_base.proofs.Names.{◌≡◌, ◌≢◌, ℕ, List, [], ◌++◌, Option, Some, sym, ap, subst, inl, inr, arith}
use Rattle.hn_lab.proofs.Names.{Script, Parts, IsLabRun, Plays, Route, Mail}
use Rattle.hn_script.specs.Laws.{AtMostOneScript, FaultExcludesScript}
use Rattle.hn_script.specs.Script.{IsScript}
use Rattle.hn_lab.specs.OpenTranscript.{LabPlaysTheSource, transcript_so_far}
use Rattle.hn_lab.specs.Transcripts.{IsTranscript, IsWrittenOf, Transcript, WrittenIsOfTranscript}

-- out of memory before anything was written
nothing_written : (t : Transcript) (status : ℕ) (world : Option Parts) (written : List ℕ) → status ≡ 6 → written ≡ [] → IsWrittenOf t status world written
nothing_written t status world written six empty = record {
  front = (t.text, ap (λ (front : List ℕ). front ++ t.text) (sym empty));
  whole = λ ended. absurd (elim ended [ inl done ↦ omega (arith, six, done) | inr refused ↦ omega (arith, six, refused) ]);
}

of_run : WrittenIsOfTranscript → AtMostOneScript → FaultExcludesScript → (script : Script) (t : Transcript) (source : List ℕ) (last : Route) (status : ℕ) (world : Option Parts)
    → (before after : Option (List ℕ)) → IsTranscript script t → IsScript script source → (run : IsLabRun Mail last (Some source) status world before after) → status ≢ 5
    → IsWrittenOf t status world run.written
of_run written_is unique excludes script t source last status world before after is_t is run unwired =
    let there : IsScript script run.bytes = subst (IsScript script) run.are_whole is in
    elim run.comes [
      | inl none ↦ absurd (excludes run.bytes none.fault script none.is_fault there)
      | inr (inl play) ↦
          let same : play.script ≡ script = unique run.bytes play.script script play.is_script there in
          written_is last script status world run.written t (subst (λ (s : Script). Plays Mail last s status world run.written) same play.plays) unwired is_t
      | inr (inr unread) ↦ nothing_written t status world run.written unread.0 unread.3
    ]

pub lab_plays : WrittenIsOfTranscript → AtMostOneScript → FaultExcludesScript → LabPlaysTheSource
lab_plays written_is unique excludes p end last status world before after is of_its is_script run unwired =
    of_run written_is unique excludes p.script (transcript_so_far p end) p.source last status world before after (of_its end is) is_script run unwired
