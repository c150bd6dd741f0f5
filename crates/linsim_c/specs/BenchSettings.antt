-- The settings of a bench: bytes that begin with their own size. Numbers are in little endian, and each
-- byte that settings don't have is 0.
use Rattle.std.specs.Prelude.{◌≡◌, ◌<◌, ◌≤◌, ◌+◌, ◌*◌, ◌/◌, ◌%◌, ◌^◌, ◌==◌, ◌&&◌, ◌||◌, ℕ, nat_le, not, Bool, false}
use Rattle.std.specs.Prelude.{if◌then◌else◌, List, drop, length, slice_index_or, take, Result, Ok, Err}
use Rattle.std.specs.List.{list_any}
use Rattle.lin_live.specs.declared.answer_format.AnswerFormat.{AnswerFormat}
use Rattle.lin_live.specs.declared.answer_format.AnswerFormat.TheVariants.{Log, Named, Jsonl}
use Rattle.linsim_c.specs.declared.bench_settings.BenchSettings.{BenchSettings}
use Rattle.linsim_c.specs.declared.fault.Fault.{Fault}
use Rattle.linsim_c.specs.declared.fault.Fault.TheVariants.{BadSize, UnknownFlags, BadCapacity}
use Rattle.linsim_c.specs.declared.fault.Fault.TheVariants.{UnknownFormat}

-- ---- numbers at a place
abbrev pub byte_at : List ℕ → ℕ → ℕ
byte_at bytes at = slice_index_or bytes at 0

abbrev pub half_at : List ℕ → ℕ → ℕ
half_at bytes at = byte_at bytes at + 2 ^ 8 * byte_at bytes (at + 1)

abbrev pub word_at : List ℕ → ℕ → ℕ
word_at bytes at = half_at bytes at + 2 ^ 16 * half_at bytes (at + 2)

abbrev pub number_at : List ℕ → ℕ → ℕ
number_at bytes at = word_at bytes at + 2 ^ 32 * word_at bytes (at + 4)

-- ---- the size

-- how many bytes are read of settings that begin with these: their size, or the bytes of the size alone
-- where it isn't 8 to 4,096
abbrev pub read_size : List ℕ → ℕ
read_size first =
    if nat_le 8 (number_at first 0) && nat_le (number_at first 0) 4096 then number_at first 0 else 8

-- these are as many bytes as are read
abbrev pub IsSized : List ℕ → Type 0
IsSized bytes = length bytes ≡ read_size (take 8 bytes)

-- whether a byte that has no meaning isn't 0
abbrev pub has_more : List ℕ → Bool
has_more bytes = list_any (λ b. not (b == 0)) (drop 24 bytes)

abbrev pub HasSize : List ℕ → Type 0
HasSize bytes = (number_at bytes 0 ≡ length bytes) × (has_more bytes ≡ false)

-- ---- the other members
-- the flags: bit 0 stands for `--field`, bit 1 for `--physical`, bit 2 for `--configuration`
abbrev pub is_field : ℕ → Bool
is_field flags = flags % 2 == 1

abbrev pub is_physical : ℕ → Bool
is_physical flags = flags / 2 % 2 == 1

abbrev pub is_configured : ℕ → Bool
is_configured flags = flags / 4 % 2 == 1

-- how many messages of a host may wait: 16 where it isn't said
abbrev pub capacity_of : ℕ → ℕ
capacity_of number = if number == 0 then 16 else number

abbrev pub format_of : ℕ → AnswerFormat
format_of number = if number == 0 then Log else if number == 1 then Named else Jsonl

abbrev pub settings_in : List ℕ → BenchSettings
settings_in bytes = record {
  capacity = capacity_of (number_at bytes 8);
  is_field = is_field (word_at bytes 16);
  is_physical = is_physical (word_at bytes 16);
  is_configured = is_configured (word_at bytes 16);
  format = format_of (half_at bytes 20);
  table = half_at bytes 22;
}

-- each of them has a meaning
abbrev pub AreSound : List ℕ → Type 0
AreSound bytes =
    HasSize bytes × (word_at bytes 16 ≤ 7) × (number_at bytes 8 ≤ 1024) × (half_at bytes 20 ≤ 2)

-- why settings aren't read, in the order in which it is told
abbrev pub SettingsFaults : Fault → List ℕ → Type 0
SettingsFaults BadSize bytes = HasSize bytes → ⊥
SettingsFaults UnknownFlags bytes = HasSize bytes × (7 < word_at bytes 16)
SettingsFaults BadCapacity bytes =
    HasSize bytes × (word_at bytes 16 ≤ 7) × (1024 < number_at bytes 8)
SettingsFaults UnknownFormat bytes =
    HasSize bytes × (word_at bytes 16 ≤ 7) × (number_at bytes 8 ≤ 1024) × (2 < half_at bytes 20)
SettingsFaults _ bytes = ⊥

abbrev pub ReadsSettings : Result BenchSettings Fault → List ℕ → Type 0
ReadsSettings (Ok s) bytes = AreSound bytes × (s ≡ settings_in bytes)
ReadsSettings (Err why) bytes = SettingsFaults why bytes
