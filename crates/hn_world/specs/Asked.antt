-- Why a call on the router of a name is refused.
use Rattle.std.specs.Prelude.{ℕ, Bool, not, if◌then◌else◌, Option, None, Some}
use Rattle.std.specs.Option.{option_or}
use Rattle.hn_base.specs.Codes.{unless_there}
use Rattle.hn_base.specs.Name.{name_text}
use Rattle.hn_base.specs.declared.name.Name.{Name}
use Rattle.hn_base.specs.declared.ids.EpId.{EpId}
use Rattle.hn_own.specs.Ports.{is_attached}
use Rattle.hn_world.specs.declared.member.Member.{Member}
use Rattle.hn_world.specs.declared.parts.Parts.{Parts}
use Rattle.hn_world.specs.Names.{member_named}

-- a code where it is so
abbrev pub code_if : ℕ → Bool → Option ℕ
code_if code so = if so then Some code else None

-- 7: there is no router of a name; and else what is asked of it
abbrev pub of_router : (Member → Option ℕ) → Option Member → Option ℕ
of_router asked router = unless_there 7 asked router

-- 12: the router is stopped
abbrev pub unless_running : Member → Option ℕ
unless_running m = code_if 12 (not m.running)

-- 11: the endpoint is not attached
abbrev pub unless_attached : EpId → Member → Option ℕ
unless_attached endpoint m = code_if 11 (not (is_attached endpoint m.router.ports))

-- of a name: there is no router of that name; and beside it, that router is stopped
abbrev pub unless_known : Name → Parts → Option ℕ
unless_known name w = of_router (λ _. None) (member_named (name_text name) w)

abbrev pub unless_runs : Name → Parts → Option ℕ
unless_runs name w = of_router unless_running (member_named (name_text name) w)

-- of two routers: both names are looked at first
abbrev pub unless_both_run : Name → Name → Parts → Option ℕ
unless_both_run left right w =
    option_or (unless_known left w) (option_or (unless_known right w) (option_or (unless_runs left w) (unless_runs right w)))
