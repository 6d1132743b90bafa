use Rattle.code_points.specs.declared.profile.Profile.{Profile}
use Rattle.server_code.specs.declared.any.AnyCode.{AnyCode}
use Rattle.server_code.specs.declared.any.AnyCode.TheVariants.{P0, P1, P2, P3, P4}

-- the profile of a code
abbrev pub code_profile : AnyCode → Profile
code_profile (P0 code) = code.profile
code_profile (P1 code) = code.profile
code_profile (P2 code) = code.profile
code_profile (P3 code) = code.profile
code_profile (P4 code) = code.profile
