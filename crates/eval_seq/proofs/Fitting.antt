-- When an expression is within the limits.
use Rattle.std.proofs.Common.{◌<◌, ◌≤◌, Ok, Err, refl}
use Rattle.std.proofs.lemmas.Bool.{lt-ltb, le-ltb}
use Rattle.expr_tree.specs.Tree.{Tree, size, depth}
use Rattle.expr_tree.specs.declared.limits.Stop.{Stop}
use Rattle.expr_tree.specs.declared.limits.Limits.{Limits}
use Rattle.evaluation_steps.specs.declared.Halt.{Halt}
use Rattle.evaluation_steps.specs.Words.{Fits}

pub fits_not_size : {limits : Limits} {e : Tree} → limits.size < size e → Fits limits e (Err (Halt.Stopped Stop.Size))
fits_not_size {limits = limits} {e = e} a = record { by = rw (lt-ltb limits.size (size e) a) refl }

pub fits_not_depth : {limits : Limits} {e : Tree} → size e ≤ limits.size → limits.depth < depth e → Fits limits e (Err (Halt.Stopped Stop.Depth))
fits_not_depth {limits = limits} {e = e} a b = record { by = rw (le-ltb limits.size (size e) a, lt-ltb limits.depth (depth e) b) refl }

pub fits_both : {limits : Limits} {e : Tree} {u : Unit {0}} → size e ≤ limits.size → depth e ≤ limits.depth → Fits limits e (Ok u)
fits_both {limits = limits} {e = e} a b = record { by = rw (le-ltb limits.size (size e) a, le-ltb limits.depth (depth e) b) tt }

pub ruleset fitting_steps = (fits_not_size, fits_not_depth, fits_both)
