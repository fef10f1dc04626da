-- the number, the layer, the place and the byte of each refusal
use Rattle.std.specs.Prelude.{ℕ}
use Rattle.span.specs.declared.fault.Layer.{Layer}
use Rattle.span.specs.declared.fault.Layer.TheVariants as layers
use Rattle.span.specs.declared.fault.Spot.{Spot}
use Rattle.span.specs.Faults.{at}
use Rattle.law.specs.Faults as law
use Rattle.sheet.specs.declared.fault.Fault.{Fault}
use Rattle.sheet.specs.declared.fault.Fault.TheVariants.{NotHeld, NoRoom, Short, OtherScale, Head, Length, OtherClaim, NoRow, Docket}

abbrev pub number : Fault → ℕ
number NotHeld = 14
number NoRoom = 16
number Short = 30
number (OtherScale b) = 31
number (Head b) = 32
number (Length b) = 33
number (OtherClaim i b) = 34
number (NoRow i) = 1
number (Docket f b) = law.number f

abbrev pub layer : Fault → Layer
layer NotHeld = layers.Sheet
layer NoRoom = layers.Sheet
layer Short = layers.Sheet
layer (OtherScale b) = layers.Sheet
layer (Head b) = layers.Sheet
layer (Length b) = layers.Sheet
layer (OtherClaim i b) = layers.Sheet
layer (NoRow i) = layers.Sheet
layer (Docket f b) = law.layer f

abbrev pub place : Fault → Spot
place NotHeld = at 0 0 0
place NoRoom = at 0 0 0
place Short = at 0 0 0
place (OtherScale b) = at 0 0 0
place (Head b) = at 0 0 0
place (Length b) = at 0 0 0
place (OtherClaim i b) = at 0 i 0
place (NoRow i) = at 0 i 0
place (Docket f b) = law.place f

-- the first byte of the first wrong field, or of what a call read
abbrev pub byte : Fault → ℕ
byte NotHeld = 0
byte NoRoom = 0
byte Short = 0
byte (OtherScale b) = b
byte (Head b) = b
byte (Length b) = b
byte (OtherClaim i b) = b
byte (NoRow i) = 0
byte (Docket f b) = b
