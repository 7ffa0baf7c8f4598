use Rattle.std.proofs.Common.{ap, ◌∙◌}
use Rattle.std.proofs.lemmas.Slice.Eq.{slice_eq-Decides, bytes_eq-Decides}
use Rattle.std.proofs.lemmas.Bool.Decides.{same_from_decides, Decides-eqb}
use Rattle.std.specs.Str.{bytes_eq}
use Rattle.account.proofs.words.is_word.Goals as goal

pub returns : goal.returns
returns c =
    let text = c.args.text.now in
    let word = c.as_bytes.result.now in
    same_from_decides c.eq.result (bytes_eq text word) (slice_eq-Decides Decides-eqb text word c.eq.result c.eq.ensures) (bytes_eq-Decides text word)
    ∙ ap (bytes_eq text) c.as_bytes.ensures.value
