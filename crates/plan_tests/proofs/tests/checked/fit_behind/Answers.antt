-- Frames of one class that fit after a number of free bytes fit after more.
use Rattle.plan_tests.proofs.CheckedLemmas.{behind-free, behind-window, joins-window}
use Rattle.plan_tests.proofs.tests.checked.fit_behind.Goals as goal

pub returns-clause-free : goal.returns-clause-free
returns-clause-free c = λ is.
    behind-free c.index-needs-0.result (c.are_of_one_class.ensures c.if-not-are_of_one_class.false)
    c.class-class.ensures c.window-window.ensures.window c.if-free-window.false (c.fit.ensures is)

pub returns-clause-window : goal.returns-clause-window
returns-clause-window c = λ is.
    behind-window
    (behind-free c.index-needs-0.result (c.are_of_one_class.ensures c.if-not-are_of_one_class.false)
    c.class-class.ensures c.window-window.ensures.window c.if-free-window.false (c.fit.ensures is))

pub returns-clause-join : goal.returns-clause-join
returns-clause-join c = λ is left less.
    joins-window c.requires.some
    (behind-free c.index-needs-0.result (c.are_of_one_class.ensures c.if-not-are_of_one_class.false)
    c.class-class.ensures c.window-window.ensures.window c.if-free-window.false (c.fit.ensures is))
    less
