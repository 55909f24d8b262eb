use Rattle.semantics.specs.Table.{row}
use Rattle.frames_control.proofs.control.Control.start.Goals as goal

pub returns-in-CompoundExpression : goal.returns-in-CompoundExpression
unfolding row
returns-in-CompoundExpression c = λ stay. rw c.in-CompoundExpression.is (c.start.ensures stay)

pub returns-in-If : goal.returns-in-If
unfolding row
returns-in-If c = λ stay. rw c.in-If.is (c.start-in-If.ensures stay)

pub returns-in-Which : goal.returns-in-Which
unfolding row
returns-in-Which c = λ stay. rw c.in-Which.is (c.start-in-Which.ensures stay)

pub returns-in-And : goal.returns-in-And
unfolding row
returns-in-And c = λ stay. rw c.in-And.is (c.start-in-And.ensures stay)

pub returns-in-Or : goal.returns-in-Or
unfolding row
returns-in-Or c = λ stay. rw c.in-Or.is (c.start-in-Or.ensures stay)

pub returns-in-While : goal.returns-in-While
unfolding row
returns-in-While c = λ stay. rw c.in-While.is (c.start-in-While.ensures stay)

pub returns-in-Nest : goal.returns-in-Nest
unfolding row
returns-in-Nest c = λ stay. rw c.in-Nest.is (c.start-in-Nest.ensures stay)

pub returns-in-NestList : goal.returns-in-NestList
unfolding row
returns-in-NestList c = λ stay. rw c.in-NestList.is (c.start-in-NestList.ensures stay)

pub returns-in-Fold : goal.returns-in-Fold
unfolding row
returns-in-Fold c = λ stay. rw c.in-Fold.is (c.start-in-Fold.ensures stay)

pub returns-in-FoldList : goal.returns-in-FoldList
unfolding row
returns-in-FoldList c = λ stay. rw c.in-FoldList.is (c.start-in-FoldList.ensures stay)

pub returns-in-FixedPoint : goal.returns-in-FixedPoint
unfolding row
returns-in-FixedPoint c = λ stay. rw c.in-FixedPoint.is (c.start-in-FixedPoint.ensures stay)

pub returns-in-Select : goal.returns-in-Select
unfolding row
returns-in-Select c = λ stay. rw c.in-Select.is (c.start-in-Select.ensures stay)
