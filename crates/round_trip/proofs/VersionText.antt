-- The line of the version reads back, where the text has it and where it doesn't.
use Rattle.std.proofs.Common.{◌≡◌, inr, Bool, true, false, refl}
use Rattle.std.specs.Prelude.{pos, Option, Some, None, codes}
use Rattle.std.specs.Option.{option_map}
use Rattle.sig_base.specs.declared.limits.TheConstants.{OPENINGS_MAX}
use Rattle.model_core.specs.declared.token.Word.TheVariants as words
use Rattle.model_core.specs.EventGraph.{EventGraph}
use Rattle.model_core.specs.Text.Canonical.{version_line}
use Rattle.model_core.specs.Text.VersionNeeded.{needs_version_two}
use Rattle.model_core.specs.Text.Format.{maybe}
use Rattle.model_core.specs.Text.Language.{VersionLine, version_format}
use Rattle.static_laws.specs.FitsVersion.{FitsVersion}
use Rattle.round_trip.proofs.Writing.{Writes, Any, Takes, takes, writes-then, writes-made, writes-before, writes-some, writes-nothing, blank_after, feed_after}
use Rattle.round_trip.proofs.OneToken.{a_word, two_text, semicolon_text}
use Rattle.round_trip.proofs.ExpressionText.{is_word}

-- the line that says version 2, or no line
abbrev pub IsVersion : Bool → Option VersionLine → Type 0
IsVersion true (Some line) = line.number.value ≡ Some (pos 2)
IsVersion true None = ⊥
IsVersion false (Some line) = ⊥
IsVersion false None = Unit {0}

SaysTwo : VersionLine → Type 0
SaysTwo line = line.number.value ≡ Some (pos 2)

line-writes : Writes version_format (codes "version 2;\n") Any OPENINGS_MAX OPENINGS_MAX SaysTwo
unfolding version_format SaysTwo
line-writes =
    writes-before (writes-then (writes-made (λ at n. record { at = at; number = n }) {J = Takes (λ n. n.value ≡ Some (pos 2)) SaysTwo}
    (blank_after (λ rest. refl) (a_word 118 (codes "ersion") words.Version (is_word refl refl refl) refl)) (λ at u. takes (λ n two. two)))
    (λ rest i. tt) two_text)
    (λ rest i. refl) (feed_after {F = Any} (λ rest. tt) semicolon_text)

pub version-writes : (needed : Bool) → Writes (maybe version_format) (version_line needed) Any OPENINGS_MAX OPENINGS_MAX (IsVersion needed)
unfolding SaysTwo
version-writes true = writes-some line-writes (λ line two. two)
version-writes false = writes-nothing tt

-- such a text can write the model
pub version-fits : (g : EventGraph) (line : Option VersionLine) → IsVersion (needs_version_two g) line → FitsVersion (option_map (λ (l : VersionLine). l.number) line) g
version-fits g line is = by (needs_version_two g) refl line is where
  by : (needed : Bool) → needs_version_two g ≡ needed → (line : Option VersionLine) → IsVersion needed line → FitsVersion (option_map (λ (l : VersionLine). l.number) line) g
  by true is (Some line) two = inr two
  by true is None two = absurd two
  by false is (Some line) none = absurd none
  by false is None none = is
