-- How a server ended, as an ending; and the devices beside the disk, as they are seen.
use Rattle.std.specs.Prelude.{[]}
use Rattle.command_defs.specs.Seen.{Ending}
use Rattle.provider_server.specs.declared.status.Served.{Served}

-- how it ended
abbrev pub served_ending : Served → Ending
served_ending end = record { status = end.status; at = end.at; heard = [] }
