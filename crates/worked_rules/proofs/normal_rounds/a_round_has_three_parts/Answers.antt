-- Bounds and the lengths of texts are computed.
use Rattle.std.proofs.Common.{[], ◌∷◌, refl, arith}
use Rattle.std.specs.Fmt.{digits}
use Rattle.model_core.specs.Rules.BoundsTable.{exact_bounds, least_of, greatest_of}
use Rattle.model_core.specs.Rules.Fuse.{no_twins, fuse_first}
use Rattle.worked_rules.specs.RangedModels.{span}
use Rattle.worked_rules.specs.NormalModels.{narrower, rules_of_the_round, without_spare_parts, plain_form}
use Rattle.worked_rules.proofs.normal_rounds.a_round_has_three_parts.Goals as goal

pub returns-clause-narrows : goal.returns-clause-narrows
unfolding digits exact_bounds least_of greatest_of
returns-clause-narrows c = record { ranges = span 0 0 ∷ []; inferred = record { rounds = 0; few = omega arith; reached = refl; stays = refl }; declared = refl }

pub returns-clause-reduces : goal.returns-clause-reduces
unfolding digits exact_bounds least_of greatest_of
returns-clause-reduces c = (refl, _, refl, (refl, _, refl, (refl, _, refl, (refl, refl))))

pub returns-clause-fuses : goal.returns-clause-fuses
unfolding digits
returns-clause-fuses c = fuse_first 1 2 refl (no_twins refl)

pub returns-clause-whole : goal.returns-clause-whole
returns-clause-whole c = record { narrowed = narrower; applications = rules_of_the_round; reduced = without_spare_parts; is_narrowed = returns-clause-narrows c; is_reduced = returns-clause-reduces c; is_fused = returns-clause-fuses c }

pub returns-clause-no_more : goal.returns-clause-no_more
unfolding digits exact_bounds least_of greatest_of
returns-clause-no_more c = record {
  narrowed = plain_form;
  applications = [];
  reduced = plain_form;
  is_narrowed = record { ranges = []; inferred = record { rounds = 0; few = omega arith; reached = refl; stays = refl }; declared = refl };
  is_reduced = (refl, refl);
  is_fused = no_twins refl;
}
