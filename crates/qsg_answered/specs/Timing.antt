-- when answers were given
use Rattle.std.specs.Prelude.{ℕ, ◌≤◌, List, [], ◌∷◌}
use Rattle.qsg_requests.specs.declared.transcript.Answer.{Answer}

-- the lengths that the history had before the answers rise, from one length to another
abbrev pub AreTimed : ℕ → ℕ → List Answer → Type 0
AreTimed from to [] = Unit {0}
AreTimed from to (a ∷ answers) = (from ≤ a.at) × (a.at ≤ to) × AreTimed a.at to answers
