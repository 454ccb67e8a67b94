use Rattle.std.proofs.Common.{◌∙◌}
use Rattle.format.specs.Commands.{one_word, two_word, close_word, reopen_word}
use Rattle.format.proofs.Exits.{none_from}
use Rattle.format.proofs.Numbered.{single_all, pair_all}
use Rattle.format.proofs.command.take_command.Goals as goal

pub returns-in-Some : goal.returns-in-Some
returns-in-Some c ts h = rw (pair_all one_word ts _ (c.in-Some.ensures ts h))

pub returns-in-Some-take_numbers : goal.returns-in-Some-take_numbers
returns-in-Some-take_numbers c ts h =
    let one = pair_all one_word ts _ (c.take_numbers.ensures ts h ∙ none_from _ c.in_default.not-Some) in
    rw (one, pair_all two_word ts _ (c.in-Some-take_numbers.ensures ts h))

pub returns-in-Some-take_numbers-2 : goal.returns-in-Some-take_numbers-2
returns-in-Some-take_numbers-2 c ts h =
    let one = pair_all one_word ts _ (c.take_numbers.ensures ts h ∙ none_from _ c.in_default.not-Some) in
    let two = pair_all two_word ts _ (c.take_numbers-2.ensures ts h ∙ none_from _ c.in_default-take_numbers.not-Some) in
    rw (one, two, single_all close_word ts _ (c.in-Some-take_numbers-2.ensures ts h))

pub returns-in_err-lane : goal.returns-in_err-lane
returns-in_err-lane c ts h =
    let one = pair_all one_word ts _ (c.take_numbers.ensures ts h ∙ none_from _ c.in_default.not-Some) in
    let two = pair_all two_word ts _ (c.take_numbers-2.ensures ts h ∙ none_from _ c.in_default-take_numbers.not-Some) in
    let close = single_all close_word ts _ (c.take_numbers-3.ensures ts h ∙ none_from _ c.in_default-take_numbers-2.not-Some) in
    rw (one, two, close, single_all reopen_word ts _ (c.in_err-lane.ensures ts h), c.from_residual.ensures)

pub returns : goal.returns
returns c ts h =
    let one = pair_all one_word ts _ (c.take_numbers.ensures ts h ∙ none_from _ c.in_default.not-Some) in
    let two = pair_all two_word ts _ (c.take_numbers-2.ensures ts h ∙ none_from _ c.in_default-take_numbers.not-Some) in
    let close = single_all close_word ts _ (c.take_numbers-3.ensures ts h ∙ none_from _ c.in_default-take_numbers-2.not-Some) in
    rw (one, two, close, single_all reopen_word ts _ (c.in_ok-lane.ensures ts h))
