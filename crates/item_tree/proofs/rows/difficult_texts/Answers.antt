use Rattle.std.proofs.Common.{refl}
use Rattle.item_tree.specs.Openings.{opening, quote_opening, word_opening, literal_opening}
use Rattle.item_tree.proofs.rows.difficult_texts.Goals as goal

pub returns : goal.returns
unfolding opening quote_opening word_opening literal_opening
returns c = record {
  quotes = refl;
  raw_strings = refl;
  raw_names = refl;
  c_string_2021 = refl;
  c_string_2018 = refl;
  raw_lifetime_2018 = refl;
  comments = refl;
  escaped_quote = refl;
  numbers = refl;
  exponents = refl;
  shebang = refl;
  shebang_behind_mark = refl;
  attribute = refl;
  open_comment = refl;
  open_raw_string = refl;
  word_in_two = refl;
  raw_string_as_string = refl;
  comment_too_short = refl;
  closed_error = refl;
}
