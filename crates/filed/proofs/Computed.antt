-- the figures of posts and sheets, by computing them
use Rattle.std.proofs.Common.{refl}
use Rattle.span.specs.Questions.{first_no, each}
use Rattle.law.specs.Decides.{decides}
use Rattle.filed.specs.Filed.{Filed}

pub filed : Filed
unfolding first_no each decides
filed = record {
  first_post = refl;
  second_post = refl;
  third_post = refl;
  short_sheet = refl;
  zero_sheet = refl;
}
