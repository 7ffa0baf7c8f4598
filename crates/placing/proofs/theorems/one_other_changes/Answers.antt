use Rattle.placing.proofs.theorems.one_other_changes.Goals as goal
use Rattle.placing.proofs.Change.{offer_changes_one, offer_only_drops, withdrawal_changes_one, withdrawal_only_revives, reranking_changes_one, answer_alone}

pub returns : goal.returns
returns c = record {
  offer = offer_changes_one;
  drops = offer_only_drops;
  withdrawal = withdrawal_changes_one;
  revives = withdrawal_only_revives;
  reranking = reranking_changes_one;
  answer = answer_alone;
}
