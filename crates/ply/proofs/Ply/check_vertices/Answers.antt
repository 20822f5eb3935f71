-- `Ply::check_vertices`: each turn asks of one vertex.
use Rattle.std.proofs.Common.{◌≡◌, Bool, List, ℕ, ◌+◌, ◌<◌, ◌≤◌, length, sym, ap, ◌∙◌, arith}
use Rattle.refusal.proofs.Asking.{each_none}
use Rattle.ply_header.specs.declared.Form.{Form}
use Rattle.std.specs.Prelude.{Some}
use Rattle.ply_vertex.specs.Vertex.{size_of, vertex_at, placed}
use Rattle.ply.specs.Body.{taken, vertex_place, vertex_of, vertex_question}
use Rattle.ply.proofs.Taken.{sized, vertices-in, vertex-in, vertex-next, vertex-first}
use Rattle.ply.proofs.Asking.{Asking, ask-more, ask-no}
use Rattle.ply.proofs.Ply.check_vertices.Goals as goal

module _ (s : List ℕ) (f : Form) {at k : ℕ} (a : Asking (vertex_question s f) (vertex_place f) f.vertices at k) where
  -- the vertex of a turn lies in the file
  inside : taken s ≡ Some f → k < f.vertices → at + size_of f ≤ length s
  inside t h = omega (arith, a.is, vertex-in f k h (vertices-in (sized s f t)))

  -- what was asked of it
  asked_of : {b : Bool} → b ≡ placed (vertex_at s f at) → placed (vertex_of s f k) ≡ b
  asked_of e = sym (e ∙ ap (λ (at : ℕ). placed (vertex_at s f at)) a.is)

pub loop-k-init : goal.loop-k-init
loop-k-init c = record { low = omega arith; is = vertex-first c.args.self.now.form; yes = each_none _ }

pub is_placed-requires : goal.is_placed-requires
is_placed-requires c = inside _ _ c.loop-k.invariant c.args.self.now.whole c.loop-k-test.true

pub returns-then-not-is_placed : goal.returns-then-not-is_placed
returns-then-not-is_placed c =
    ask-no c.loop-k.invariant c.loop-k-test.true (asked_of _ _ c.loop-k.invariant c.is_placed.ensures ∙ c.if-not-is_placed.true)

pub overflow_add-at : goal.overflow_add-at
overflow_add-at c = omega (arith, inside _ _ c.loop-k.invariant c.args.self.now.whole c.loop-k-test.true, c.size-bytes.ensures.0)

pub loop-k-preserved : goal.loop-k-preserved
loop-k-preserved c =
    ask-more c.loop-k.invariant c.loop-k-test.true (asked_of _ _ c.loop-k.invariant c.is_placed.ensures ∙ c.if-not-is_placed.false)
    (omega (arith, c.loop-k.invariant.is, c.size-bytes.ensures.0, vertex-next c.args.self.now.form c.loop-k.k))
