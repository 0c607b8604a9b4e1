-- the request of a directive
use Rattle.std.specs.Prelude.{Option, Some, None}
use Rattle.qsg_objects.specs.declared.directives.Directive.{Directive}
use Rattle.qsg_objects.specs.declared.directives.Directive.TheVariants as directive
use Rattle.qsg_requests.specs.declared.words.Request.{Request}
use Rattle.qsg_requests.specs.declared.words.Request.TheVariants as request
use Rattle.qsg_directives.specs.Bodies.{body_of, IsSized}

-- Those of a put, a get, a commit and a backout. The other directives ask for none of these.
abbrev pub request_of : Directive → Option Request
request_of (directive.Put queue body priority persistent msg_id correl_id) =
    Some (request.Put (record { queue = queue; body = body_of body; priority = priority; persistent = persistent; msg_id = msg_id; correl_id = correl_id }))
request_of (directive.Get queue msg_id correl_id) = Some (request.Get queue (record { msg_id = msg_id; correl_id = correl_id }))
request_of directive.Commit = Some request.Commit
request_of directive.Backout = Some request.Backout
request_of other = None

abbrev pub IsRight : Directive → Type 0
IsRight (directive.Put queue body priority persistent msg_id correl_id) = IsSized body
IsRight other = Unit {0}
