-- What the program keeps for calls and replies.
--     request_of            what a machine asks
--     call_of, reply_of     what an evaluation asks; what it is answered
use Rattle.semantics.specs.Program as p
use Rattle.semantics.specs.Play as y
use Rattle.machine_steps.specs.declared.outward.Request.{Request}
use Rattle.machine_steps.specs.declared.outward.Want.{Want}
use Rattle.machine_steps.specs.declared.outward.Answer.{Answer}

abbrev pub request_of : Request → p.Request
request_of Request.Count = p.Count
request_of (Request.Print t) = p.Print t
request_of (Request.Outside e) = p.Outside e

abbrev pub call_of : Want → p.Call
call_of (Want.Sends request) = p.Sends (request_of request)
call_of (Want.Access e) = p.Sends (p.Access e)
call_of (Want.Enter locks) = p.Enter locks
call_of Want.Leave = p.Leave

abbrev pub reply_of : Answer → y.Reply
reply_of (Answer.Value v) = y.Replied v
reply_of (Answer.Stopped cause) = y.Halted cause
reply_of Answer.Closed = y.Shut
reply_of Answer.NoMemory = y.Lacking
