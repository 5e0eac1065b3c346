-- The names that proofs of this crate cite most, handed on from one place. Declares nothing.
pub use Rattle.hex.specs.Hex.{decode_of}
pub use Rattle.hex.specs.declared.error.FromHexError.{FromHexError}
pub use Rattle.hn_base.specs.declared.ids.EpId.{EpId}
pub use Rattle.hn_base.specs.declared.ids.NodeId.{NodeId}
pub use Rattle.hn_base.specs.declared.version.Version.TheVariants.{One}
pub use Rattle.hn_decode.specs.Nested.{IsTextTo, tlvs_line}
pub use Rattle.hn_dncp.specs.declared.port.Port.{Port}
pub use Rattle.hn_forms.specs.Decode.{CutsDecode, IsDecodeOf, SpellsTlvs, WritesDecode, malformed_line, written_status}
pub use Rattle.hn_forms.specs.Form.{ArePeerPorts, IsFormOf}
pub use Rattle.hn_forms.specs.HexText.{unblanked}
pub use Rattle.hn_forms.specs.Node.{IsNodeRun, IsOverfull, IsSetUp, LineHolds, LinesHappen, MakesNode, Outside, PlainCall, StatusOfNode, node_event_of, is_too_many, served_line, node_line, plain_call}
pub use Rattle.hn_forms.specs.Outcome.{WatchHolds}
pub use Rattle.hn_forms.specs.Watch.{CutsWatch, IsCapture, StarvesWatch, WritesWatch, watch_line, watch_text}
pub use Rattle.hn_forms.specs.declared.words.Form.TheVariants.{Decode, Lab, Node, Soak, Udp, Watch}
pub use Rattle.hn_forms.specs.declared.words.NodeCall.{NodeCall}
pub use Rattle.hn_io.specs.declared.fault.IoFault.{IoFault}
pub use Rattle.hn_io.specs.declared.fault.IoFault.TheVariants.{Failed, NoMemory}
pub use Rattle.hn_node.specs.declared.served.Served.{Served}
pub use Rattle.hn_own.specs.Ports.{endpoints_of}
pub use Rattle.hn_router.specs.Act.{Attach, Happened}
pub use Rattle.hn_rules.specs.declared.done.Done.{Done}
pub use Rattle.hn_rules.specs.declared.state.State.{State}
pub use Rattle.hn_script.specs.Field.{IsNumberText}
pub use Rattle.hn_script.specs.declared.fault.ScriptFault.{ScriptFault}
pub use Rattle.hn_script.specs.declared.node_file.NodeLine.{NodeLine}
pub use Rattle.hn_streams.specs.Laws.{PiecesAppend}
pub use Rattle.hn_streams.specs.Output.{AppendsCut, AppendsPart}
pub use Rattle.hn_streams.specs.Refusal.{refused_line}
pub use Rattle.hn_tlv.specs.Grammar.{HasTlvs}
pub use Rattle.hn_watch.specs.Watch.{fed_of}
pub use Rattle.hn_watch.specs.declared.seen.Seen.{Seen}
pub use Rattle.hn_wire.specs.declared.datagram.Datagram.{Datagram}
pub use Rattle.std.proofs.Common.{append-nil}
pub use Rattle.std.specs.Prelude.{Contains, IfSome, string_bytes}
