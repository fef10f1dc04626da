use Rattle.std.proofs.Common.{◌≡◌, ◌∷◌, ◌++◌, string_bytes, rules}
use lib.Utf8.{encode}
use Rattle.wording.proofs.Commas.{digit, digit_comma}
use Rattle.wording.proofs.grouping.with_commas.Goals as goal

pub loop-digit-preserved-in_ok-push-2 : goal.loop-digit-preserved-in_ok-push-2
loop-digit-preserved-in_ok-push-2 c =
    let steps : c.loop-digit.left.now ≡ c.in-Some.digit.now ∷ c.in-Some.others.now = search rules in
    let put : string_bytes c.push.new.self ≡ string_bytes c.loop-digit.text ++ encode c.in-Some.digit.now = search rules in
    let comma : string_bytes c.push-then-whole_groups.new.self ≡ string_bytes c.push.new.self ++ encode 44 = search rules in
    digit_comma c.loop-digit.invariant steps put comma (search rules)

pub loop-digit-preserved : goal.loop-digit-preserved
loop-digit-preserved c =
    let steps : c.loop-digit.left.now ≡ c.in-Some.digit.now ∷ c.in-Some.others.now = search rules in
    let put : string_bytes c.push.new.self ≡ string_bytes c.loop-digit.text ++ encode c.in-Some.digit.now = search rules in
    digit c.loop-digit.invariant steps put (search rules)
