use Rattle.std.proofs.Common.{refl}
use Rattle.mt_world.proofs.event_calls.make_in_place.Goals as goal

pub returns-in-Begin : goal.returns-in-Begin
returns-in-Begin g c = rw c.in-Begin.is c.begin.ensures

pub returns-in-Call : goal.returns-in-Call
returns-in-Call g c = rw c.in-Call.is c.call.ensures

pub returns-in-Step : goal.returns-in-Step
returns-in-Step g c = rw c.in-Step.is c.step.ensures

pub returns-in-Commit : goal.returns-in-Commit
returns-in-Commit g c = rw c.in-Commit.is c.commit.ensures

pub returns-in-AbortBegin : goal.returns-in-AbortBegin
returns-in-AbortBegin g c = rw c.in-AbortBegin.is c.abort.ensures

pub returns-in-AbortStep : goal.returns-in-AbortStep
returns-in-AbortStep g c = rw c.in-AbortStep.is c.undo.ensures

pub returns-in-Back : goal.returns-in-Back
returns-in-Back g c = rw c.in-Back.is c.back.ensures

pub returns-in-BackStep : goal.returns-in-BackStep
returns-in-BackStep g c = rw c.in-BackStep.is c.return_step.ensures

pub returns-in-Force : goal.returns-in-Force
returns-in-Force g c = rw c.in-Force.is c.force.ensures

pub returns-in-Flush : goal.returns-in-Flush
returns-in-Flush g c = rw c.in-Flush.is c.flush.ensures

pub returns-in-Rotate : goal.returns-in-Rotate
returns-in-Rotate g c = (c.in-Rotate.is, refl)
