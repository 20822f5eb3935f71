-- `number_list::word_length`: the place of the first character of no word, or the length. Assumes nothing.
use Rattle.std.proofs.Common.{◌≡◌, sym, ap, ◌∙◌, not, length, rules, tests}
use Rattle.std.specs.List.{position}
use Rattle.std.specs.Option.{unwrap_or}
use Rattle.std.proofs.lemmas.Iterator.{YieldsList-from_slice}
use Rattle.std.proofs.lemmas.Iterator.Search.{position_from_yields_List}
use Rattle.number_list.specs.Inner.{is_word}
use Rattle.number_list.proofs.Runs.{first-or-length, word-first}
use Rattle.number_list.proofs.word_length.Goals as goal

pub returns : goal.returns
returns c =
    let s = c.args.text.now in
    let found : c.position.result ≡ position (λ k. not (is_word k)) s = position_from_yields_List _ _ _ c.position.result c.position.ensures.ran (YieldsList-from_slice s cc) (λ x b q k. search (rules, tests)) in
    c.unwrap_or.ensures ∙ ap (λ o. unwrap_or o (length s)) found ∙ first-or-length _ s ∙ sym (word-first s)
