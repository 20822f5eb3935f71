-- `parse::figures`: the figures that are left say what all of them say. Assumes nothing.
use Rattle.std.proofs.Common.{◌≡◌, ◌<◌, drop}
use Rattle.parse.specs.Parse.{figures_from, figures}
use Rattle.parse.proofs.figures.Given as goal

abbrev pub invariant-loop-c : goal.invariant-loop-c
invariant-loop-c l = (l.n < 10000000000000000) × (figures_from l.negative l.n (drop l.c-index l.s) ≡ figures l.negative l.s)
