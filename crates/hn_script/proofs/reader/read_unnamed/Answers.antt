-- A word that is none of these, and has no name alone after it, shares what is after it with no other.
use Rattle.hn_script.proofs.reader.read_unnamed.Goals as goal

pub read_sole-requires : goal.read_sole-requires
read_sole-requires c = (
  c.requires.0,
  (
    c.in_default.not-detach,
    (
      c.in_default.not-advert,
      (
        c.in_default.not-radv,
        (
          c.in_default.not-solicit,
          (
            c.in_default.not-seed,
            (
              c.in_default.not-deliver,
              (
                c.in_default.not-drop,
                (c.in_default.not-compare, (c.in_default.not-sync, (c.in_default.not-flow, (c.in_default.not-mail, c.requires.1)))),
              ),
            ),
          ),
        ),
      ),
    ),
  ),
)
