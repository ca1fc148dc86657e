use Rattle.smol_str.proofs.Common.{to_ascii_lowercase, to_ascii_uppercase, IsAsciiUppercase, IsAsciiLowercase, Lower, Upper, ◌≡◌, ◌+◌, ◌∷◌, ap, arith, nat_tests, common_steps, cases_lt, lower, lowercase_is, uppercase_is}
use Rattle.std.proofs.lemmas.Str.Ascii.{lowercase-lowercase, uppercase-uppercase, lowercase-uppercase}
use Rattle.smol_str.proofs.CaseLemmas.Ascii.{size-converted, map-map, map-unchanged, All-mapped}
use Rattle.smol_str.proofs.laws.ascii_case.Goals as goal

pub returns : goal.returns
returns c = record {
  lower_of_capital = λ c t h. ap (λ d. d ∷ lower t) ((lowercase_is c).0 h);
  upper_of_small = λ c t h. let one : to_ascii_uppercase (c + 32) ≡ c = grind (arith, nat_tests) in rw one;
  lower_size = size-converted Lower;
  upper_size = size-converted Upper;
  lower_twice = map-map to_ascii_lowercase to_ascii_lowercase to_ascii_lowercase lowercase-lowercase;
  upper_twice = map-map to_ascii_uppercase to_ascii_uppercase to_ascii_uppercase uppercase-uppercase;
  lower_of_upper = map-map to_ascii_lowercase to_ascii_uppercase to_ascii_lowercase lowercase-uppercase;
  upper_of_lower = map-map to_ascii_uppercase to_ascii_lowercase to_ascii_uppercase (λ c. grind (arith, nat_tests));
  lower_has_no_capital = All-mapped to_ascii_lowercase (λ c. ¬ IsAsciiUppercase c) (λ c h. grind (arith, nat_tests));
  upper_has_no_small = All-mapped to_ascii_uppercase (λ c. ¬ IsAsciiLowercase c) (λ c h. grind (arith, nat_tests));
  lower_unchanged = map-unchanged to_ascii_lowercase IsAsciiUppercase (λ c h. grind (arith, common_steps, lowercase_is, cases_lt));
  upper_unchanged = map-unchanged to_ascii_uppercase IsAsciiLowercase (λ c h. grind (arith, common_steps, uppercase_is, cases_lt));
}
