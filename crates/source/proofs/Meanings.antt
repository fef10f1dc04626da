-- two meanings that tell the same of every place are one
use Rattle.std.proofs.Common.{◌≡◌}
use Rattle.source.specs.declared.place.Place.{Place}
use Rattle.source.specs.Meaning.{Kind, Meaning}

pub one_meaning : (M N : Meaning) → ((q : Place) → M.coefficient q ≡ N.coefficient q) → ((q : Place) → M.held q ≡ N.held q) → ((k : Kind) → M.capacity k ≡ N.capacity k) → ((q : Place) → M.standing q ≡ N.standing q) → M ≡ N
one_meaning M N a b c d = λ i. record { coefficient = λ q. a q i; held = λ q. b q i; capacity = λ k. c k i; standing = λ q. d q i }
