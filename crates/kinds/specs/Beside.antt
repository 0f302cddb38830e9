-- What stands beside a request that has no list: none of its places is used.
use Rattle.std.specs.Prelude.{false, replicate}
use Rattle.kinds.specs.Limits.{major_bytes, longest_minor, longest_list}
use Rattle.kinds.specs.declared.names.NameList.{NameList}
use Rattle.kinds.specs.declared.ecbs.EcbList.{EcbList}

abbrev pub no_names : NameList
no_names = record {
  count = 0;
  names = replicate longest_list (record {
    exclusive = false;
    name = record { major = replicate major_bytes 0; minor = replicate longest_minor 0; length = 0 };
  });
}

abbrev pub no_ecbs : EcbList
no_ecbs = record { count = 0; ecbs = replicate longest_list (record { 0 = 0 }) }
