-- What the code's values stand for.
use Rattle.std.specs.Prelude.{map}
use Rattle.op_properties.specs.Offers.{shown}
use Rattle.problem_build.specs.Entries.{Entry}
use Rattle.problem_build.specs.Variables.{Choices}
use Rattle.problem_build.specs.declared.choices.Pool.{Pool}
use Rattle.problem_build.specs.declared.entries.Listed.{Listed}

abbrev pub shown_entry : Listed → Entry
shown_entry listed =
    record {
      catalog_namespace = listed.catalog_namespace;
      catalog = listed.catalog;
      «package» = listed.«package»;
      channel = listed.channel;
      name = listed.name;
      version = listed.version;
      requirements = listed.requirements;
      offer = shown listed.offer;
    }

abbrev pub shown_choices : Pool → Choices
shown_choices pool =
    record {
      asks = pool.asks.now;
      entries = map (λ entry. shown_entry entry.now) pool.entries.now;
      tips = map shown pool.tips.now;
    }
