use Rattle.std.proofs.Common.{[], refl}
use Rattle.am_alerts.specs.declared.matcher.Operator.TheVariants.{Equal, Like}
use Rattle.am_config.proofs.route.refuse_matchers.Goals as goal

pub returns : goal.returns
returns c = λ none.
    let like = c.in_ok-refuse_members-2.ensures none in
    let equal = c.in_ok-refuse_members.ensures like.0 in
    let texts = c.in_ok-refuse_items.ensures.matchers equal.0 in (
      texts.0,
      record {
        equal = [];
        like = [];
        texts = [];
        is = refl;
        equal_are = equal.1 Equal;
        like_are = like.1 Like;
        texts_are = texts.1;
      },
    )
