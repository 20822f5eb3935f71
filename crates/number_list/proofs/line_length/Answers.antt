-- `number_list::line_length`: the place of the first line feed, or the length. Assumes nothing.
use Rattle.std.proofs.Common.{◌≡◌, sym, ap, ◌∙◌, eqb, length, rules, tests}
use Rattle.std.specs.List.{position}
use Rattle.std.specs.Option.{unwrap_or}
use Rattle.std.proofs.lemmas.Iterator.{YieldsList-from_slice}
use Rattle.std.proofs.lemmas.Iterator.Search.{position_from_yields_List}
use Rattle.number_list.proofs.Runs.{first-or-length, line-first}
use Rattle.number_list.proofs.line_length.Goals as goal

pub returns : goal.returns
returns c =
    let s = c.args.text.now in
    let found : c.position.result ≡ position (λ k. eqb k 10) s = position_from_yields_List _ _ _ c.position.result c.position.ensures.ran (YieldsList-from_slice s cc) (λ x b q k. search (rules, tests)) in
    c.unwrap_or.ensures ∙ ap (λ o. unwrap_or o (length s)) found ∙ first-or-length _ s ∙ sym (line-first s)
