-- The names that proofs of this crate cite most, handed on from one place. Declares nothing.
pub use Rattle.hex.proofs.HexLemmas.{decode_of-ok}
pub use Rattle.hex.specs.Hex.{IsBytes, decode_of, lower_digits}
pub use Rattle.hn_base.proofs.EachByRecursion.{AllByRecursion-append}
pub use Rattle.hn_base.proofs.FrontOfList.{tail_is}
pub use Rattle.hn_base.proofs.KnownByFields.{same_caps}
pub use Rattle.hn_base.proofs.NumeralLemmas.{decimal_is_short}
pub use Rattle.hn_base.proofs.SplitLemmas.{Lacks-from_fact}
pub use Rattle.hn_base.specs.declared.ids.EpId.{EpId}
pub use Rattle.hn_base.specs.declared.letter.Letter.{Letter}
pub use Rattle.hn_base.specs.declared.letter.Letter.TheVariants.{H, L, M, P}
pub use Rattle.hn_base.specs.declared.name.Name.{Name}
pub use Rattle.hn_base.specs.declared.version.Version.{Version}
pub use Rattle.hn_base.specs.declared.version.Version.TheVariants.{One}
pub use Rattle.hn_prefix.specs.Laws.{PrefixTextIsOfOne}
pub use Rattle.hn_prefix.specs.PrefixText.{IsPrefixText, prefix_text_of}
pub use Rattle.hn_script.specs.Entries.{AreLines, FaultFrom, IsEntry, numbered}
pub use Rattle.hn_script.specs.Fault.{FirstWordFault, IsPlain, IsUnknown, LineFault, TextFault, WordsFault}
pub use Rattle.hn_script.specs.Field.{Capability, Endpoint, Field, Hex, IsField, IsHexWord, IsFieldInRange, IsNameWord, IsNumberText, Length, Named, Node, Number, Prefixed, Way, field_text, letter_text}
pub use Rattle.hn_script.specs.Field.{way_text}
pub use Rattle.hn_script.specs.FirstWords.{IsNoneOf, IsOneOf}
pub use Rattle.hn_script.specs.Language.{Gives, Language, SpellsLine}
pub use Rattle.hn_script.specs.Laws.{IsPrintable, PrintedIsRead, renumbered}
pub use Rattle.hn_script.specs.Line.{IsOfVersion, every_line, lifetime, line_spelling, line_text, of_version, priority, values_text}
pub use Rattle.hn_script.specs.NodeFile.{of_node}
pub use Rattle.hn_script.specs.Reading.{ReadsFields}
pub use Rattle.hn_script.specs.Script.{IsScript, ended, first_line}
pub use Rattle.hn_script.specs.Soak.{chance_texts, link_name, link_texts, report_texts, router_name, router_texts, run_texts, soak_text, up_to, upward_texts}
pub use Rattle.hn_script.specs.SoakLines.{AddsLines, IsLineOf}
pub use Rattle.hn_script.specs.Texts.{lines_of, words_of}
pub use Rattle.hn_script.specs.declared.fault.ScriptFault.{ScriptFault}
pub use Rattle.hn_script.specs.declared.line.How.{How}
pub use Rattle.hn_script.specs.declared.line.How.TheVariants.{Far, Multi, Uni}
pub use Rattle.hn_script.specs.declared.line.Line.{Line}
pub use Rattle.hn_script.specs.declared.line.Line.TheVariants.{Address, Addressed, Addresses, Advert, Attach, Audit, Caps, Compare, Deliver, Detach, Drop, Elect, External, Flow, Hash, Inject, Link}
pub use Rattle.hn_script.specs.declared.line.Line.TheVariants.{Loss, Mail, Prefixes, Private, Radv, Router, Run, Seed, Show, Solicit, Start, Stop, Sync, Tick, Time, Ula, Ulas, Used, Withdraw}
pub use Rattle.hn_script.specs.declared.node_file.NodeLine.{NodeLine}
pub use Rattle.hn_script.specs.declared.script.Script.{Script}
pub use Rattle.std.proofs.Common.{eq-eqb, ◌&&◌, ◌==◌}
