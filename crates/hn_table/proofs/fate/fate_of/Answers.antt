use Rattle.hn_base.proofs.Names.{rules, ◌≡◌, ◌≤◌, ◌∙◌, IsTrue, false, sym, subst, arith, false≢true}
use Rattle.hn_table.proofs.Names.{plain_view, IsOutermost}
use Rattle.hn_table.proofs.Fates.{among_prefixes, from_prefixes, candidate_of, announced_prefix, past_of, some_left}
use Rattle.hn_table.proofs.fate.fate_of.Goals as goal

pub outermost_of-outermost-requires : goal.outermost_of-outermost-requires
outermost_of-outermost-requires c =
    let node = c.args.node.now in
    let d = c.args.d.now in
    let view = plain_view c.args.view.now in
    let short : d.prefix.len ≤ 64 = omega (arith, c.len.ensures.value, c.if-len-gt64.false) in
    announced_prefix view node d (candidate_of view node d c.requires.seen (c.version.ensures.found.0 c.if-is_none.ensures) c.requires.said
    (some_left c.remaining.result _ c.remaining.ensures c.if-remaining-eq0.false) short)

pub returns-then-is_used : goal.returns-then-is_used
returns-then-is_used c =
    let node = c.args.node.now in
    let d = c.args.d.now in
    let short : d.prefix.len ≤ 64 = omega (arith, c.len.ensures.value, c.if-len-gt64.false) in
    let yes : IsTrue c.is_used.result = search rules in
    record {
      candidate = candidate_of (plain_view c.args.view.now) node d c.requires.seen (c.version.ensures.found.0 c.if-is_none.ensures) c.requires.said
          (some_left c.remaining.result _ c.remaining.ensures c.if-remaining-eq0.false) short;
      among = among_prefixes c.args.used.now d.prefix (c.is_used.ensures.0 yes);
    }

pub returns-then-eq : goal.returns-then-eq
returns-then-eq c =
    let view = plain_view c.args.view.now in
    let node = c.args.node.now in
    let d = c.args.d.now in
    let short : d.prefix.len ≤ 64 = omega (arith, c.len.ensures.value, c.if-len-gt64.false) in
    let no : c.is_used.result ≡ false = search rules in
    let same : c.outermost_of-outermost.result ≡ d.prefix = search rules in
    let candidate = candidate_of view node d c.requires.seen (c.version.ensures.found.0 c.if-is_none.ensures) c.requires.said
    (some_left c.remaining.result _ c.remaining.ensures c.if-remaining-eq0.false) short in
    past_of view c.args.used.now node d c.requires.usable candidate (subst (IsOutermost view) same c.outermost_of-outermost.ensures.outermost)
    (λ among. false≢true (sym no ∙ c.is_used.ensures.1 (from_prefixes c.args.used.now d.prefix among)))
