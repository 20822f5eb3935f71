-- The answer of a route test, from the answers to the questions.
--     last-passed                      what it is to pass questions 8 to 10
--     answer-refused, answer-accepted  by the answer of the check of questions 1 to 7
--     answer-given                     an answer that is no refusal
-- Assumes nothing.
use mathlib.Core.Bool.{◌&&◌, and-eq-true_iff}
use mathlib.Core.List.{List, [], ◌∷◌}
use mathlib.Core.Path.{◌≡◌, refl, sym, ap, ◌∙◌}
use Prim.Native.Nat.{ℕ, ◌%◌, ◌≤◌}
use native.Mathlib.Omega.{arith}
use borrow.Author.Tests.{leb-true}
use lib.Dec.{leb, eqb}
use lib.IntN.{ℤ}
use lib.ListN.{length}
use Rattle.refusal.specs.Limit.{Answer, gives, refused}
use Rattle.refusal.specs.Questions.{answered}
use Rattle.refusal.specs.Inner.{Passing, passed, asked}
use Rattle.refusal.proofs.Asking.{passed-head, and_then, both-passed, first-append, passes, asked-given, each-passed}
use Rattle.grid.specs.declared.Grid.{Grid}
use Rattle.grid.specs.Grid.{cell_count}
use Rattle.map.specs.Map.{map_length, is_filled}
use Rattle.layout.specs.declared.Header.{Header}
use Rattle.frame.specs.File.{header_of}
use Rattle.frame.specs.Questions.{file_questions, checked}
use Rattle.frame.proofs.Accepted.{questions-refused, questions-passed, header_is}
use Rattle.fill.specs.Fill.{grid_of, map_question, fill_questions}
use Rattle.demand.specs.Route.{point_count, points_of, tested, point_question, point_questions, route_questions, route_answer}
use Rattle.demand.specs.declared.Finding.{Finding}
use Rattle.demand.specs.Inner.{last_questions, ReadyRoute}
use Rattle.demand.proofs.Points.{points-length}

-- ---- questions 8 to 10 as facts
pub last-passed : (g : Grid) (len : ℕ) (ns : List ℤ) → asked (last_questions g len ns) ≡ passed → (map_length (cell_count g) ≤ len) × ReadyRoute g ns
last-passed g len ns e =
    let q8 = passed-head tt _ _ e in
    let q9 = passed-head tt _ _ q8.1 in
    let count = (and-eq-true_iff (leb 2 (point_count ns)) (leb (point_count ns) 64 && eqb (length ns % 3) 0)).0 q9.0 in (
      leb-true _ _ q8.0,
      record {
        some = leb-true 2 (point_count ns) count.0;
        inside = λ m l. each-passed (point_question g (points_of ns)) (length (points_of ns)) q9.1 m (omega (arith, points-length ns));
      },
    )

-- ---- questions 1 to 7, then 8 to 10
then-assoc : {A : Type 0} (u v : Passing) (w : Answer A) → and_then (and_then u v) w ≡ and_then u (and_then v w)
then-assoc (gives a) v w = refl
then-assoc (refused n p) v w = refl

module _ {A : Type 0} (x : A) (s : List ℕ) (len : ℕ) (ns : List ℤ) where
  in-turn : answered (route_questions s len ns) x ≡ and_then (asked (file_questions s)) (answered (last_questions (grid_of s) len ns) x)
  in-turn =
      let file = file_questions s in
      let q8 = map_question (grid_of s) len in
      let last = point_questions (grid_of s) ns in
      first-append x (fill_questions s len) last
      ∙ ap (λ (v : Passing). and_then v (answered last x)) (first-append tt file (q8 ∷ []))
      ∙ then-assoc (asked file) (asked (q8 ∷ [])) (answered last x)
      ∙ ap (and_then (asked file)) (sym (first-append x (q8 ∷ []) last))

module _ (s m : List ℕ) (ns : List ℤ) where
  abbrev finding : Grid → Finding
  finding g = tested (is_filled m) g (points_of ns)

  pub answer-refused : {n p : ℕ} → checked s ≡ refused n p → route_answer s m ns ≡ refused n p
  unfolding route_answer
  answer-refused e = in-turn (finding (grid_of s)) s (length m) ns ∙ rw (questions-refused s e)

  pub answer-accepted : (h : Header) → checked s ≡ gives h → route_answer s m ns ≡ answered (last_questions h.grid (length m) ns) (finding h.grid)
  unfolding route_answer
  answer-accepted h e =
      in-turn (finding (grid_of s)) s (length m) ns
      ∙ rw (questions-passed s h e) (ap (λ (y : Header). answered (last_questions y.grid (length m) ns) (finding y.grid)) (header_is s h e))

  -- an answer that is no refusal: the questions are passed, and the finding is that of the legs
  pub record GivenRoute (f : Finding) : Type 0 where
    pub file : checked s ≡ gives (header_of s)
    pub last : asked (last_questions (grid_of s) (length m) ns) ≡ passed
    pub answer : finding (grid_of s) ≡ f

  pub answer-given : {f : Finding} → route_answer s m ns ≡ gives f → GivenRoute f
  unfolding route_answer checked
  answer-given e =
      let (all, answer) = asked-given (finding (grid_of s)) (route_questions s (length m) ns) e in
      let (first, last) = both-passed _ _ (sym (in-turn tt s (length m) ns) ∙ all) in
      record { file = passes (header_of s) (file_questions s) first; last = last; answer = answer }
