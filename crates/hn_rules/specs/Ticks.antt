-- A tick: silent peers, ended delegated prefixes and lost nodes go, prefixes are assigned, and then each endpoint sends
-- what is due (RFC 7787, sections 4.3, 4.6 and 6.1; RFC 7788, section 6.3; RFC 6206, section 4.2).
use Rattle.std.specs.Prelude.{◌≡◌}
use Rattle.hn_base.specs.Rules.{Then}
use Rattle.hn_rules.specs.Rules.{Rule}
use Rattle.hn_rules.specs.Refresh.{IsRefresh}
use Rattle.hn_rules.specs.Delegating.{ending}
use Rattle.hn_rules.specs.Assigning.{IsAssigning}
use Rattle.hn_rules.specs.Tick.{IsExpiry, forgetting, IsPortsTick}

-- silent peers and ended delegated prefixes go, and a refresh
abbrev pub IsLosing : Rule
IsLosing = Then IsExpiry (Then (λ b a. a ≡ ending b) IsRefresh)

-- prefixes are assigned, and a refresh
abbrev pub IsSettling : Rule
IsSettling = Then IsAssigning IsRefresh

-- the rule
abbrev pub IsTick : Rule
IsTick = Then IsLosing (Then (λ b a. a ≡ forgetting b) (Then IsSettling IsPortsTick))
