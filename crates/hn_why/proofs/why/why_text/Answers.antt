use Rattle.hn_base.proofs.Names.{string_bytes, IfOk-weaker, name_text}
use Rattle.hn_why.proofs.Whys.{unsettled_so, unquiet_so, quiet_so}
use Rattle.hn_why.proofs.why.why_text.Goals as goal

pub returns-in-Some : goal.returns-in-Some
returns-in-Some c =
    let one = c.in_ok-why.ensures in
    IfOk-weaker c.unsettled_text.result _ _
    (λ text told. unsettled_so (name_text c.args.name.now) c.args.world.now.parts c.requires _ (record { none = one.none; some = one.some; first = one.first }) c.in-Some.why (string_bytes text)
    c.in-Some.is told) c.unsettled_text.ensures

pub returns-in-Some-2 : goal.returns-in-Some-2
returns-in-Some-2 c =
    let one = c.in_ok-why.ensures in
    let two = c.in_ok-why-in-None.ensures in
    IfOk-weaker c.unquiet_text.result _ _
    (λ text told. unquiet_so (name_text c.args.name.now) c.args.world.now.parts c.requires _ (record { none = one.none; some = one.some; first = one.first }) c.in-None.is _
    (record { none = two.none; some = two.some; first = two.first }) c.in-Some-2.why (string_bytes text) c.in-Some-2.is told) c.unquiet_text.ensures

pub returns-in-None-2 : goal.returns-in-None-2
returns-in-None-2 c =
    let one = c.in_ok-why.ensures in
    let two = c.in_ok-why-in-None.ensures in
    IfOk-weaker c.quiet_text.result _ _
    (λ text told. quiet_so (name_text c.args.name.now) c.args.world.now.parts c.requires _ (record { none = one.none; some = one.some; first = one.first }) c.in-None.is _
    (record { none = two.none; some = two.some; first = two.first }) (string_bytes text) c.in-None-2.is told) c.quiet_text.ensures
