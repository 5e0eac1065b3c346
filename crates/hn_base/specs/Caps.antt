use Rattle.std.specs.Prelude.{ℕ}
use Rattle.hn_base.specs.declared.caps.Caps.{Caps}

-- the four capabilities of a node, without the facts that their type keeps (RFC 7788, section 10.1)
pub record PlainCaps : Type 0 where
  pub m : ℕ
  pub p : ℕ
  pub h : ℕ
  pub l : ℕ

abbrev pub plain_caps : Caps → PlainCaps
plain_caps caps = record { m = caps.m; p = caps.p; h = caps.h; l = caps.l }
