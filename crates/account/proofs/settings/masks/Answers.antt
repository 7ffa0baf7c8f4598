use Rattle.std.proofs.Common.{eqb, map, length, Some, vec_items, sym, ap, ◌∙◌, rules, tests}
use Rattle.std.specs.List.{slice_split}
use Rattle.std.proofs.lemmas.Iterator.Consumers.{YieldsList-at, YieldsList-turn, YieldsList-end}
use Rattle.std.proofs.lemmas.Iterator.Splits.{YieldsList-from_slice_split}
use Rattle.std.proofs.lemmas.List.{map_push}
use Rattle.account.specs.Numbers.{mask_of}
use Rattle.account.specs.Settings.{masks_of}
use Rattle.account.proofs.Masks.{split_words, masks_push, masks_stop}
use Rattle.account.proofs.settings.masks.Goals as goal

pub returns-in_default : goal.returns-in_default
returns-in_default c =
    let text = c.args.text.now in
    let turn = YieldsList-turn (YieldsList-at c.into_iter-word-iterator.ensures.into_iter_gives (YieldsList-from_slice_split _ (λ x. eqb x 32) text c.split-word-items.ensures.rest c.split-word-items.ensures.done c.split-word-items.ensures.closure (λ x b q k. search (rules, tests)))) c.loop-word.yielded _ c.loop-word.yielded_by _ _ c.in-Some.word c.in-Some.is c.next.ensures.steps in
    let stop = masks_stop (slice_split (λ x. eqb x 32) text) (length c.loop-word.yielded) c.in-Some.word.now turn.0 (c.in_default.ensures ∙ ap mask_of turn.1) in
    sym (ap masks_of (sym (split_words text)) ∙ stop)

pub loop-word-preserved : goal.loop-word-preserved
loop-word-preserved c =
    ap masks_of (map_push (λ w. w.now) c.loop-word.yielded c.in-Some.word)
    ∙ masks_push (map (λ w. w.now) c.loop-word.yielded) (vec_items c.loop-word.masks) c.in-Some.word.now c.in-Some-mask.mask c.loop-word.invariant c.in-Some-mask.ensures
    ∙ ap Some (sym c.in_ok-push.ensures.items)

pub returns : goal.returns
returns c =
    let text = c.args.text.now in
    let end = YieldsList-end (YieldsList-at c.into_iter-word-iterator.ensures.into_iter_gives (YieldsList-from_slice_split _ (λ x. eqb x 32) text c.split-word-items.ensures.rest c.split-word-items.ensures.done c.split-word-items.ensures.closure (λ x b q k. search (rules, tests)))) c.loop-word.yielded _ c.loop-word.yielded_by _ _ c.in-None.is c.next.ensures.steps in
    sym (ap masks_of (sym (end.0 ∙ split_words text)) ∙ c.loop-word.invariant)
