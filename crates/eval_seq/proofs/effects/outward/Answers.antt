use Rattle.evaluation_steps.proofs.Laws.{called_value, called_stop, called_closed, called_memory}
use Rattle.eval_seq.proofs.effects.outward.Goals as goal

pub returns-in-Value-clause-called : goal.returns-in-Value-clause-called
returns-in-Value-clause-called g c =
    called_value (record { made = c.in-Value.ensures.step; fits = c.in-Value.ensures.fits; again = c.in-Value.ensures.ready; same_names = c.in-Value.ensures.names; same_mode = c.in-Value.ensures.mode; follows = c.in-Value.ensures.is_open })

pub returns-in-Stopped-clause-called : goal.returns-in-Stopped-clause-called
returns-in-Stopped-clause-called g c =
    called_stop (record { made = c.in-Stopped.ensures.step; fits = c.in-Stopped.ensures.fits; again = c.in-Stopped.ensures.ready; same_names = c.in-Stopped.ensures.names; same_mode = c.in-Stopped.ensures.mode; follows = c.in-Stopped.ensures.is_open })

pub returns-in-Closed-clause-called : goal.returns-in-Closed-clause-called
returns-in-Closed-clause-called g c =
    called_closed (record { made = c.in-Closed.ensures.step; fits = c.in-Closed.ensures.fits; again = c.in-Closed.ensures.ready; same_names = c.in-Closed.ensures.names; same_mode = c.in-Closed.ensures.mode; follows = c.in-Closed.ensures.is_open })

pub returns-in-NoMemory-clause-called : goal.returns-in-NoMemory-clause-called
returns-in-NoMemory-clause-called g c =
    called_memory c.call.new.defs (record { made = c.in-NoMemory.ensures.step; fits = c.in-NoMemory.ensures.fits; again = c.in-NoMemory.ensures.ready; same_names = c.in-NoMemory.ensures.names; same_mode = c.in-NoMemory.ensures.mode; follows = c.in-NoMemory.ensures.is_open })
