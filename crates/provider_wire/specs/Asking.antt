-- The plain data of the program's requests.
use Rattle.challenge.specs.Asked.{asked}
use Rattle.wire_defs.specs.Requests.{Request as Asking, Store, Fetch, Ask, Remove}
use Rattle.provider_wire.specs.declared.request.Request.{Request}
use Rattle.provider_wire.specs.declared.request.Request.TheVariants as kind

-- the plain data of a request
abbrev pub request_of : Request → Asking
request_of (kind.Store object stripe block) = Store object stripe block
request_of (kind.Fetch object stripe size) = Fetch object stripe size
request_of (kind.Ask object c) = Ask object (asked c)
request_of (kind.Remove object) = Remove object
