use Rattle.hn_base.proofs.Names.{◌≢◌, ℕ, List, [], ◌∷◌, refl, subst, lit<}
use Rattle.hn_forms.proofs.Names.{Failed, WatchHolds, IsCapture, WritesWatch, CutsWatch, StarvesWatch}
use Rattle.hn_forms.proofs.Outcomes.{by_status, watch_read, watch_unread}
use Rattle.hn_forms.proofs.Sources.{Contains-more}
use Rattle.hn_forms.proofs.watch_form.watch.Goals as goal

pub returns-in-Ok-clause-watch : goal.returns-in-Ok-clause-watch
returns-in-Ok-clause-watch g c _ =
    let status = c.run_watch.result in
    let before = g.K.Sink.held c.args.out.now in
    let after = g.K.Sink.held c.run_watch.new.out in
    let seen = c.deref.result.now in
    let holds = by_status status (WritesWatch seen status before after) (CutsWatch seen Failed before after)
    (StarvesWatch seen before after) c.run_watch.ensures.statuses c.run_watch.ensures.written c.run_watch.ensures.broken c.run_watch.ensures.starved in
    watch_read (g.S.Source.left c.args.src.now) (g.S.Source.left c.read_all.new.src) c.in-Ok.bytes.items status before after c.in-Ok.ensures.all c.in-Ok.ensures.whole
    (subst (λ (bytes : List ℕ). WatchHolds bytes status before after) c.deref.ensures.value holds)
    (subst (λ (bytes : List ℕ). (datagrams : List (List ℕ)) → IsCapture bytes datagrams → status ≢ 2) c.deref.ensures.value c.run_watch.ensures.complete)

pub returns-in-Err-NoMemory-clause-watch : goal.returns-in-Err-NoMemory-clause-watch
returns-in-Err-NoMemory-clause-watch g c _ = watch_unread (g.S.Source.left c.args.src.now) 6 (g.K.Sink.held c.args.out.now) refl

pub returns-in-Ok-clause-statuses : goal.returns-in-Ok-clause-statuses
returns-in-Ok-clause-statuses g c = Contains-more (0 ∷ 2 ∷ []) (4 ∷ 6 ∷ []) 3 c.run_watch.result c.run_watch.ensures.statuses

pub returns-in-Err-Failed-clause-statuses : goal.returns-in-Err-Failed-clause-statuses
returns-in-Err-Failed-clause-statuses g c = (2, lit< tt, refl)
