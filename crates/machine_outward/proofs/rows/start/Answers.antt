use Rattle.std.proofs.Common.{◌≡◌, ◌∙◌, ap, sym, subst}
use Rattle.semantics.specs.declared.builtin.Builtin.{Builtin}
use Rattle.semantics.specs.Names.{make}
use Rattle.semantics.specs.Table.{row}
use Rattle.machine_outward.specs.Placing.{names_at, Opens}
use Rattle.machine_outward.proofs.rows.start.Goals as goal

pub returns-in-Throw-clause-opens : goal.returns-in-Throw-clause-opens
unfolding row
returns-in-Throw-clause-opens c =
    let names = names_at c.args.place.now in
    subst (λ (r : Builtin). Opens c.args.place.now (λ stay. row names r stay c.args.form.now.items.now) c.args.used.now c.throw.result c.args.used.now) (sym c.in-Throw.is) (c.throw.ensures c.args.used.now)

pub returns-in-Catch-clause-opens : goal.returns-in-Catch-clause-opens
unfolding row
returns-in-Catch-clause-opens c =
    let names = names_at c.args.place.now in
    subst (λ (r : Builtin). Opens c.args.place.now (λ stay. row names r stay c.args.form.now.items.now) c.args.used.now c.catch.result c.args.used.now) (sym c.in-Catch.is) (c.catch.ensures c.args.used.now)

pub returns-in-ParallelMap-clause-opens : goal.returns-in-ParallelMap-clause-opens
unfolding row
returns-in-ParallelMap-clause-opens c =
    let names = names_at c.args.place.now in
    subst (λ (r : Builtin). Opens c.args.place.now (λ stay. row names r stay c.args.form.now.items.now) c.args.used.now c.parallel_map.result c.parallel_map.new.used) (sym c.in-ParallelMap.is) c.parallel_map.ensures

pub returns-in-ParallelCombine-clause-opens : goal.returns-in-ParallelCombine-clause-opens
unfolding row
returns-in-ParallelCombine-clause-opens c =
    let names = names_at c.args.place.now in
    subst (λ (r : Builtin). Opens c.args.place.now (λ stay. row names r stay c.args.form.now.items.now) c.args.used.now c.parallel_combine.result c.parallel_combine.new.used) (sym c.in-ParallelCombine.is) c.parallel_combine.ensures

pub returns-in-ParallelTry-clause-opens : goal.returns-in-ParallelTry-clause-opens
unfolding row
returns-in-ParallelTry-clause-opens c =
    let names = names_at c.args.place.now in
    subst (λ (r : Builtin). Opens c.args.place.now (λ stay. row names r stay c.args.form.now.items.now) c.args.used.now c.parallel_try.result c.parallel_try.new.used) (sym c.in-ParallelTry.is) c.parallel_try.ensures

pub returns-in-ParallelTable-clause-opens : goal.returns-in-ParallelTable-clause-opens
unfolding row
returns-in-ParallelTable-clause-opens c =
    let names = names_at c.args.place.now in
    subst (λ (r : Builtin). Opens c.args.place.now (λ stay. row names r stay c.args.form.now.items.now) c.args.used.now c.parallel_loop.result c.parallel_loop.new.used) (sym c.in-ParallelTable.is) c.parallel_loop.ensures

pub returns-in-ParallelDo-clause-opens : goal.returns-in-ParallelDo-clause-opens
unfolding row
returns-in-ParallelDo-clause-opens c =
    let names = names_at c.args.place.now in
    subst (λ (r : Builtin). Opens c.args.place.now (λ stay. row names r stay c.args.form.now.items.now) c.args.used.now c.parallel_loop-in-ParallelDo.result c.parallel_loop-in-ParallelDo.new.used) (sym c.in-ParallelDo.is) c.parallel_loop-in-ParallelDo.ensures

pub returns-in-ParallelSum-clause-opens : goal.returns-in-ParallelSum-clause-opens
unfolding row
returns-in-ParallelSum-clause-opens c =
    let names = names_at c.args.place.now in
    subst (λ (r : Builtin). Opens c.args.place.now (λ stay. row names r stay c.args.form.now.items.now) c.args.used.now c.parallel_loop-in-ParallelSum.result c.parallel_loop-in-ParallelSum.new.used) (sym c.in-ParallelSum.is) c.parallel_loop-in-ParallelSum.ensures

pub returns-in-ParallelEvaluate-clause-opens : goal.returns-in-ParallelEvaluate-clause-opens
unfolding row
returns-in-ParallelEvaluate-clause-opens c =
    let names = names_at c.args.place.now in
    subst (λ (r : Builtin). Opens c.args.place.now (λ stay. row names r stay c.args.form.now.items.now) c.args.used.now c.outside_or_failed.result c.outside_or_failed.new.used) (sym c.in-ParallelEvaluate.is) (c.outside_or_failed.ensures Builtin.ParallelEvaluate (c.requires ∙ ap (λ r. make (names_at c.args.place.now) r c.args.form.now.items.now) c.in-ParallelEvaluate.is))

pub returns-in-WaitNext-clause-opens : goal.returns-in-WaitNext-clause-opens
unfolding row
returns-in-WaitNext-clause-opens c =
    let names = names_at c.args.place.now in
    subst (λ (r : Builtin). Opens c.args.place.now (λ stay. row names r stay c.args.form.now.items.now) c.args.used.now c.outside_or_failed-in-WaitNext.result c.outside_or_failed-in-WaitNext.new.used) (sym c.in-WaitNext.is) (c.outside_or_failed-in-WaitNext.ensures Builtin.WaitNext (c.requires ∙ ap (λ r. make (names_at c.args.place.now) r c.args.form.now.items.now) c.in-WaitNext.is))

pub returns-in-WaitAll-clause-opens : goal.returns-in-WaitAll-clause-opens
unfolding row
returns-in-WaitAll-clause-opens c =
    let names = names_at c.args.place.now in
    subst (λ (r : Builtin). Opens c.args.place.now (λ stay. row names r stay c.args.form.now.items.now) c.args.used.now c.wait_all.result c.wait_all.new.used) (sym c.in-WaitAll.is) c.wait_all.ensures

pub returns-in-ParallelSubmit-clause-opens : goal.returns-in-ParallelSubmit-clause-opens
unfolding row
returns-in-ParallelSubmit-clause-opens c =
    let names = names_at c.args.place.now in
    subst (λ (r : Builtin). Opens c.args.place.now (λ stay. row names r stay c.args.form.now.items.now) c.args.used.now c.parallel_submit.result c.parallel_submit.new.used) (sym c.in-ParallelSubmit.is) c.parallel_submit.ensures

pub returns-in-DistributeDefinitions-clause-opens : goal.returns-in-DistributeDefinitions-clause-opens
unfolding row
returns-in-DistributeDefinitions-clause-opens c =
    let names = names_at c.args.place.now in
    subst (λ (r : Builtin). Opens c.args.place.now (λ stay. row names r stay c.args.form.now.items.now) c.args.used.now c.of_symbols.result c.of_symbols.new.used) (sym c.in-DistributeDefinitions.is) (c.of_symbols.ensures Builtin.DistributeDefinitions (c.requires ∙ ap (λ r. make (names_at c.args.place.now) r c.args.form.now.items.now) c.in-DistributeDefinitions.is))

pub returns-in-SetSharedVariable-clause-opens : goal.returns-in-SetSharedVariable-clause-opens
unfolding row
returns-in-SetSharedVariable-clause-opens c =
    let names = names_at c.args.place.now in
    subst (λ (r : Builtin). Opens c.args.place.now (λ stay. row names r stay c.args.form.now.items.now) c.args.used.now c.of_symbols-in-SetSharedVariable.result c.of_symbols-in-SetSharedVariable.new.used) (sym c.in-SetSharedVariable.is) (c.of_symbols-in-SetSharedVariable.ensures Builtin.SetSharedVariable (c.requires ∙ ap (λ r. make (names_at c.args.place.now) r c.args.form.now.items.now) c.in-SetSharedVariable.is))

pub returns-in-SetSharedFunction-clause-opens : goal.returns-in-SetSharedFunction-clause-opens
unfolding row
returns-in-SetSharedFunction-clause-opens c =
    let names = names_at c.args.place.now in
    subst (λ (r : Builtin). Opens c.args.place.now (λ stay. row names r stay c.args.form.now.items.now) c.args.used.now c.of_symbols-in-SetSharedFunction.result c.of_symbols-in-SetSharedFunction.new.used) (sym c.in-SetSharedFunction.is) (c.of_symbols-in-SetSharedFunction.ensures Builtin.SetSharedFunction (c.requires ∙ ap (λ r. make (names_at c.args.place.now) r c.args.form.now.items.now) c.in-SetSharedFunction.is))

pub returns-in-CriticalSection-clause-opens : goal.returns-in-CriticalSection-clause-opens
unfolding row
returns-in-CriticalSection-clause-opens c =
    let names = names_at c.args.place.now in
    subst (λ (r : Builtin). Opens c.args.place.now (λ stay. row names r stay c.args.form.now.items.now) c.args.used.now c.critical_section.result c.critical_section.new.used) (sym c.in-CriticalSection.is) c.critical_section.ensures

pub returns-in-Quit-clause-opens : goal.returns-in-Quit-clause-opens
unfolding row
returns-in-Quit-clause-opens c =
    let names = names_at c.args.place.now in
    subst (λ (r : Builtin). Opens c.args.place.now (λ stay. row names r stay c.args.form.now.items.now) c.args.used.now c.quit.result c.quit.new.used) (sym c.in-Quit.is) c.quit.ensures

pub returns-in-Print-clause-opens : goal.returns-in-Print-clause-opens
unfolding row
returns-in-Print-clause-opens c =
    let names = names_at c.args.place.now in
    subst (λ (r : Builtin). Opens c.args.place.now (λ stay. row names r stay c.args.form.now.items.now) c.args.used.now c.print.result c.print.new.used) (sym c.in-Print.is) c.print.ensures
