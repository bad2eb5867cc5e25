-- The definitions at values from outside: RFC 6265, the 6265bis draft, and the numbers of the limits.
use Rattle.std.proofs.Common.{◌≡◌, true, false, refl}
use Rattle.std.specs.Prelude.{codes}
use Rattle.jar_values.specs.declared.moment.TheConstants.{MAX_MOMENT}
use Rattle.jar_values.specs.declared.names.TheConstants.{MAX_PAIR_BYTES}
use Rattle.jar_values.specs.declared.text.TheConstants.{TEXT_END}
use Rattle.jar_values.specs.Bytes.{is_blank, is_control}
use Rattle.jar_values.specs.Names.{has_secure_prefix, has_host_prefix, is_reserved}
use Rattle.jar_values.specs.Hosts.{is_ip_host, domain_matches, undotted}
use Rattle.jar_values.specs.Paths.{path_matches}

-- the end of the year 9999, in milliseconds since 1970
last-moment : MAX_MOMENT ≡ 253402300799999
last-moment = refl

-- the length from which on a text is too long for the readers of lists, places and scripts: 2^30 bytes
text-end : TEXT_END ≡ 1073741824
text-end = refl

-- the draft, section 5.6: at most 4,096 bytes of name and value
pair-bound : MAX_PAIR_BYTES ≡ 4096
pair-bound = refl

-- the draft, section 5.6: a control byte is 00 to 08, 0A to 1F, or 7F
control-bytes : (is_control 0x00 ≡ true) × (is_control 0x08 ≡ true) × (is_control 0x0A ≡ true) × (is_control 0x1F ≡ true) × (is_control 0x7F ≡ true)
control-bytes = (refl, refl, refl, refl, refl)

-- the tab, the space and what follows it are none
other-bytes : (is_control 0x09 ≡ false) × (is_control 0x20 ≡ false) × (is_control 0x7E ≡ false) × (is_control 0x80 ≡ false)
other-bytes = (refl, refl, refl, refl)

-- white space in the draft, section 5.6, is a space or a tab
blanks : (is_blank 0x20 ≡ true) × (is_blank 0x09 ≡ true) × (is_blank 0x0A ≡ false) × (is_blank 0x0D ≡ false)
blanks = (refl, refl, refl, refl)

-- the draft, section 5.4: prefixes are matched without case
prefixes : (has_secure_prefix (codes "__sECURE-a") ≡ true) × (has_host_prefix (codes "__hoST-") ≡ true) × (has_secure_prefix (codes "__Secure") ≡ false) × (has_host_prefix (codes "_Host-a") ≡ false)
prefixes = (refl, refl, refl, refl)

-- either prefix makes a name reserved
reserved : (is_reserved (codes "__Secure-a") ≡ true) × (is_reserved (codes "__Host-a") ≡ true) × (is_reserved (codes "Secure-a") ≡ false)
reserved = (refl, refl, refl)

-- RFC 6265, section 4.1.2.3: the hosts that get a cookie of the domain example.com
hosts_of_a_domain : (domain_matches (codes "example.com") (codes "example.com") ≡ true)
    × (domain_matches (codes "www.example.com") (codes "example.com") ≡ true)
    × (domain_matches (codes "www.corp.example.com") (codes "example.com") ≡ true)
hosts_of_a_domain = (refl, refl, refl)

-- RFC 6265, section 4.1.2.3: the domains that foo.example.com may name, and two that it may not
domains_of_a_host : (domain_matches (codes "foo.example.com") (codes "example.com") ≡ true)
    × (domain_matches (codes "foo.example.com") (codes "foo.example.com") ≡ true)
    × (domain_matches (codes "foo.example.com") (codes "bar.example.com") ≡ false)
    × (domain_matches (codes "foo.example.com") (codes "baz.foo.example.com") ≡ false)
domains_of_a_host = (refl, refl, refl, refl)

-- RFC 6265, section 5.1.3: an address matches itself alone, and what goes before a domain ends with a dot
borders : (domain_matches (codes "10.0.0.1") (codes "10.0.0.1") ≡ true)
    × (domain_matches (codes "10.0.0.1") (codes "0.0.1") ≡ false)
    × (domain_matches (codes "anexample.com") (codes "example.com") ≡ false)
borders = (refl, refl, refl)

-- it is the host that may be no address, and not the domain
address_hosts : (domain_matches (codes "[::1.2]") (codes "2]") ≡ false) × (domain_matches (codes "1.2.3.4") (codes "3.4") ≡ false)
address_hosts = (refl, refl)

-- hosts that are addresses: in brackets, or with a number behind the last dot
addresses : (is_ip_host (codes "[::1]") ≡ true) × (is_ip_host (codes "10.0.0.1") ≡ true) × (is_ip_host (codes "h.9") ≡ true)
addresses = (refl, refl, refl)

-- names are none: a last label with another byte than digits, or without a byte, is no number
names : (is_ip_host (codes "h.test") ≡ false) × (is_ip_host (codes "1.h") ≡ false) × (is_ip_host (codes "h.1a") ≡ false) × (is_ip_host (codes "h.a1") ≡ false) × (is_ip_host (codes "h.1.") ≡ false)
names = (refl, refl, refl, refl, refl)

-- one dot in front is taken away
dots : (undotted (codes ".h.test") ≡ codes "h.test") × (undotted (codes "h.test") ≡ codes "h.test") × (undotted (codes "..h") ≡ codes ".h")
dots = (refl, refl, refl)

-- RFC 2965, section 1, has /tec/waldo match /tec; RFC 6265, section 5.1.4, wants a border behind the prefix
paths : (path_matches (codes "/tec/waldo") (codes "/tec") ≡ true) × (path_matches (codes "/tec") (codes "/tec") ≡ true)
    × (path_matches (codes "/tec/waldo") (codes "/tec/") ≡ true)
    × (path_matches (codes "/tecwaldo") (codes "/tec") ≡ false) × (path_matches (codes "/tec") (codes "/tec/waldo") ≡ false)
paths = (refl, refl, refl, refl, refl)

-- no other path of the same length matches, nor one in another case
other_paths : (path_matches (codes "/abc/waldo") (codes "/tec") ≡ false) × (path_matches (codes "/abc/waldo") (codes "/tec/") ≡ false) × (path_matches (codes "/Tec/waldo") (codes "/tec") ≡ false)
other_paths = (refl, refl, refl)
